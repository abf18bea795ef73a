use Rattle.std.proofs.Common.{sym, subst}
use Rattle.rga_sequence.specs.Blocks.{IsSequence}
use Rattle.rga_sequence.proofs.PutLaws.{apart_none}
use Rattle.rga_sequence.proofs.sequence.Sequence.new.Goals as goal

pub invariant_of-result : goal.invariant_of-result
invariant_of-result c = (
  subst IsSequence (sym c.new.ensures.items) (record { apart = apart_none; filled = tt }),
  c.new-2.ensures c.new.result.items,
)
