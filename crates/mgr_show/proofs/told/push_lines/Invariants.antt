use Rattle.std.proofs.Common.{◌≡◌, ◌++◌, length}
use Rattle.std.specs.Prelude.{string_bytes}
use Rattle.std.specs.List.{flat_map}
use Rattle.mgr_show.specs.Told.{tally_line}
use Rattle.mgr_show.proofs.told.push_lines.Given as goal

abbrev pub invariant-replicas : goal.invariant-replicas
invariant-replicas l = string_bytes l.text ++ flat_map tally_line l.rest.entries ≡ string_bytes l.fn.text ++ flat_map tally_line l.fn.tallies.entries

abbrev pub decreases-replicas : goal.decreases-replicas
decreases-replicas l = length l.rest.entries
