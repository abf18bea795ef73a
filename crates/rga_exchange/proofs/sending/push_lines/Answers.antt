use Rattle.std.proofs.Common.{◌∙◌, ap, true≢false, arith}
use Rattle.std.specs.Result.{is_ok}
use Rattle.rga_exchange.proofs.BegunLemmas.{begun_part}
use Rattle.rga_exchange.proofs.FirstLinesLemmas.{first_begun}
use Rattle.rga_exchange.proofs.LogTextLemmas.{begun_line}
use Rattle.rga_exchange.proofs.WritableLaws.{writable_next}
use Rattle.rga_exchange.proofs.sending.push_lines.Goals as goal

pub loop-op-preserved : goal.loop-op-preserved
loop-op-preserved g c = record {
  begun = begun_line _ _ _ _ _ _ _ c.args.ops.now c.loop-op.op-index c.op-item.result c.loop-op-test.true c.op-item.is c.loop-op.invariant.begun c.in_ok-take_operation.ensures.ok;
  writable = writable_next c.args.ops.now c.loop-op.op-index c.op-item.result c.loop-op-test.true c.op-item.is c.loop-op.invariant.writable c.in_ok-take_operation.ensures.writable;
  unfailed = c.in_ok-take_operation.ensures.device.unfailed (λ e. true≢false (ap is_ok e)) ∙ c.loop-op.invariant.unfailed;
}

pub returns-in_err-take_operation-clause-begun : goal.returns-in_err-take_operation-clause-begun
returns-in_err-take_operation-clause-begun g c = begun_part _ _ _ _ _ _ _ c.loop-op.invariant.begun c.in_err-take_operation.ensures.begun

pub returns-in_err-take_operation-clause-first : goal.returns-in_err-take_operation-clause-first
returns-in_err-take_operation-clause-first g c =
    first_begun _ _ _ _ _ _ c.args.ops.now c.loop-op.op-index (omega (arith, c.loop-op-test.true)) c.loop-op.invariant.writable c.loop-op.invariant.begun c.in_err-take_operation.ensures.begun
