use Rattle.std.proofs.Common.{◌≡◌, ◌++◌, take, drop}
use Rattle.rga_sequence.specs.Entries.{visible_ids}
use Rattle.rga_sequence.proofs.scans.push_visible.Given as goal

abbrev pub invariant-loop-entry : goal.invariant-loop-entry
invariant-loop-entry l =
    l.list.items ++ drop l.skip (take l.end (visible_ids (drop l.entry-index l.entries)))
    ≡ l.fn.list.items ++ drop l.lo (take l.hi (visible_ids l.entries))
