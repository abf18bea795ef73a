use Rattle.std.proofs.Common.{[], refl}
use Rattle.rga_exchange.proofs.BegunLemmas.{begun_left, begun_whole}
use Rattle.rga_exchange.proofs.FirstLinesLemmas.{first_none, first_all, appends_first}
use Rattle.rga_exchange.proofs.LogTextLemmas.{log_begun}
use Rattle.rga_exchange.proofs.AppendedLaws.{stands_appended}
use Rattle.rga_exchange.proofs.sending.append_log.Goals as goal

pub returns-in_err-finish-clause-begun : goal.returns-in_err-finish-clause-begun
returns-in_err-finish-clause-begun g c =
    begun_left _ _ _ _ _ _ (log_begun _ _ _ _ _ _ c.in_ok-block.ensures c.in_ok-push_lines.ensures.ok) c.in_err-finish.ensures.begun

pub returns-clause-begun : goal.returns-clause-begun
returns-clause-begun g c =
    begun_left _ _ _ _ _ _ (log_begun _ _ _ _ _ _ c.in_ok-block.ensures c.in_ok-push_lines.ensures.ok) c.in_ok-finish.ensures.begun

pub returns-clause-joined : goal.returns-clause-joined
returns-clause-joined g c = λ bytes held stands ended well joinable.
    stands_appended bytes held c.args.ops.now stands ended (c.in_ok-push_lines.ensures.writable well) well joinable

pub returns-in_err-block-clause-gained : goal.returns-in_err-block-clause-gained
returns-in_err-block-clause-gained g c = appends_first _ _ _ [] _ refl (first_none _ _ [] c.args.ops.now)

pub returns-in_err-push_lines-clause-gained : goal.returns-in_err-push_lines-clause-gained
returns-in_err-push_lines-clause-gained g c = appends_first _ _ _ _ _ c.in_ok-block.ensures c.in_err-push_lines.ensures.first

pub returns-in_err-finish-clause-gained : goal.returns-in_err-finish-clause-gained
returns-in_err-finish-clause-gained g c = appends_first _ _ _ _ _ c.in_ok-block.ensures (
    first_all _ _ _ _ _ _ c.args.ops.now c.in_ok-push_lines.ensures.writable c.in_ok-push_lines.ensures.ok c.in_err-finish.ensures.begun)

pub returns-clause-gained : goal.returns-clause-gained
returns-clause-gained g c = appends_first _ _ _ _ _ c.in_ok-block.ensures (
    first_all _ _ _ _ _ _ c.args.ops.now c.in_ok-push_lines.ensures.writable c.in_ok-push_lines.ensures.ok c.in_ok-finish.ensures.begun)

pub returns-clause-written : goal.returns-clause-written
returns-clause-written g c =
    begun_whole _ c.args.writer.now c.push_lines.new.writer c.finish.new.writer _ _ (log_begun _ _ _ _ _ _ c.in_ok-block.ensures c.in_ok-push_lines.ensures.ok) c.in_ok-finish.ensures.ok
