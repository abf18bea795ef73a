use Rattle.std.proofs.Common.{◌≡◌, ◌++◌, drop}
use Rattle.rga_sequence.specs.Entries.{ids}
use Rattle.rga_sequence.proofs.scans.push_ids.Given as goal

abbrev pub invariant-loop-entry : goal.invariant-loop-entry
invariant-loop-entry l = l.list.items ++ ids (drop l.entry-index l.entries) ≡ l.fn.list.items ++ ids l.entries
