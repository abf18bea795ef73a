use Rattle.std.proofs.Common.{◌≡◌, ◌++◌, ◌∷◌, length, map}
use Rattle.std.specs.Prelude.{string_bytes}
use Rattle.std.specs.List.{flat_map, join_with_byte}
use Rattle.mgr_show.specs.Told.{tally_object}
use Rattle.mgr_show.proofs.told.push_objects.Given as goal

abbrev pub invariant-others : goal.invariant-others
invariant-others l = string_bytes l.text ++ flat_map (λ e. 44 ∷ tally_object e) l.rest.entries ≡ string_bytes l.fn.text ++ join_with_byte 44 (map tally_object l.fn.tallies.entries)

abbrev pub decreases-others : goal.decreases-others
decreases-others l = length l.rest.entries
