use Rattle.std.proofs.Common.{take}
use Rattle.mgr_mend.specs.Parts.{HasLeast}
use Rattle.mgr_mend.proofs.judging.least_insertions.Given as goal

abbrev pub invariant-loop-op : goal.invariant-loop-op
invariant-loop-op l = HasLeast (take l.op-index l.ops) l.least
