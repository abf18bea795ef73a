use Rattle.std.proofs.Common.{take}
use Rattle.std.specs.Prelude.{All}
use Rattle.rga_exchange.proofs.WritableLaws.{MayBeWritten}
use Rattle.rga_exchange.proofs.runs.may_be_written.Given as goal

abbrev pub invariant-loop-op : goal.invariant-loop-op
invariant-loop-op l = All MayBeWritten (take l.op-index l.ops)
