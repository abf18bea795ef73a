use Rattle.std.proofs.Common.{take}
use Rattle.rga_sequence.specs.Blocks.{AreFrom}
use Rattle.rga_sequence.proofs.scans.least_of.Given as goal

abbrev pub invariant-loop-entry : goal.invariant-loop-entry
invariant-loop-entry l = AreFrom l.least (take l.entry-index l.entries)
