use Rattle.rga_exchange.proofs.WrittenLemmas.{front_none}
use Rattle.rga_exchange.proofs.BegunLemmas.{begun_left, begun_whole}
use Rattle.rga_exchange.proofs.LogTextLemmas.{log_begun}
use Rattle.rga_exchange.proofs.RunLineLaws.{runs_appended, runs_gained, runs_front}
use Rattle.rga_exchange.proofs.runs.append_runs.Goals as goal

pub returns-in_err-block-clause-gained : goal.returns-in_err-block-clause-gained
returns-in_err-block-clause-gained g c = runs_gained _ _ _ c.args.ops.now c.may_be_written.ensures (front_none _ _ _)

pub returns-in_err-push_runs-clause-gained : goal.returns-in_err-push_runs-clause-gained
returns-in_err-push_runs-clause-gained g c =
    runs_gained _ _ _ c.args.ops.now c.may_be_written.ensures (runs_front _ _ _ _ _ c.in_ok-block.ensures c.in_err-push_runs.ensures.begun)

pub returns-in_err-finish-clause-begun : goal.returns-in_err-finish-clause-begun
returns-in_err-finish-clause-begun g c =
    begun_left _ _ _ _ _ _ (log_begun _ _ _ _ _ _ c.in_ok-block.ensures c.in_ok-push_runs.ensures.ok) c.in_err-finish.ensures.begun

pub returns-in_err-finish-clause-gained : goal.returns-in_err-finish-clause-gained
returns-in_err-finish-clause-gained g c =
    runs_gained _ _ _ c.args.ops.now c.may_be_written.ensures (
    begun_left _ _ _ _ _ _ (log_begun _ _ _ _ _ _ c.in_ok-block.ensures c.in_ok-push_runs.ensures.ok) c.in_err-finish.ensures.begun)

pub returns-clause-joined : goal.returns-clause-joined
returns-clause-joined g c = λ bytes held stands ended well joinable. runs_appended bytes held c.args.ops.now stands ended (c.may_be_written.ensures well) well joinable

pub returns-clause-begun : goal.returns-clause-begun
returns-clause-begun g c =
    begun_left _ _ _ _ _ _ (log_begun _ _ _ _ _ _ c.in_ok-block.ensures c.in_ok-push_runs.ensures.ok) c.in_ok-finish.ensures.begun

pub returns-clause-gained : goal.returns-clause-gained
returns-clause-gained g c =
    runs_gained _ _ _ c.args.ops.now c.may_be_written.ensures (
    begun_left _ _ _ _ _ _ (log_begun _ _ _ _ _ _ c.in_ok-block.ensures c.in_ok-push_runs.ensures.ok) c.in_ok-finish.ensures.begun)

pub returns-clause-written : goal.returns-clause-written
returns-clause-written g c =
    begun_whole _ c.args.writer.now c.push_runs.new.writer c.finish.new.writer _ _ (log_begun _ _ _ _ _ _ c.in_ok-block.ensures c.in_ok-push_runs.ensures.ok) c.in_ok-finish.ensures.ok
