use Rattle.std.proofs.Common.{arith}
use Rattle.rga_exchange.proofs.WritableLaws.{writable_next, writable_all}
use Rattle.rga_exchange.proofs.runs.may_be_written.Goals as goal

pub loop-op-preserved : goal.loop-op-preserved
loop-op-preserved c = writable_next c.args.ops.now c.loop-op.op-index c.op-item.result c.loop-op-test.true c.op-item.is c.loop-op.invariant c.one_may_be_written.ensures

pub returns : goal.returns
returns c = writable_all c.args.ops.now c.loop-op.op-index (omega arith) c.loop-op.invariant
