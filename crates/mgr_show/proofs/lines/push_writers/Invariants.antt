use Rattle.std.proofs.Common.{◌≡◌, ◌++◌, ◌∷◌, length, map, decimal}
use Rattle.std.specs.Prelude.{string_bytes}
use Rattle.std.specs.List.{flat_map, join_with_byte}
use Rattle.mgr_show.proofs.lines.push_writers.Given as goal

abbrev pub invariant-others : goal.invariant-others
invariant-others l = string_bytes l.text ++ flat_map (λ n. 44 ∷ decimal n) l.rest.keys ≡ string_bytes l.fn.text ++ join_with_byte 44 (map decimal l.fn.replicas.keys)

abbrev pub decreases-others : goal.decreases-others
decreases-others l = length l.rest.keys
