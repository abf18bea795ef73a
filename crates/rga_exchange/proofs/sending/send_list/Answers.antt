use Rattle.std.proofs.Common.{◌∙◌, length, refl}
use Rattle.rga_exchange.proofs.BegunLemmas.{begun_left, begun_whole}
use Rattle.rga_exchange.proofs.LogTextLemmas.{exchange_begun, exchange_front}
use Rattle.rga_exchange.proofs.MeetingLaws.{list_received}
use Rattle.rga_exchange.proofs.sending.send_list.Goals as goal

pub returns-in_err-push_lines-clause-begun : goal.returns-in_err-push_lines-clause-begun
returns-in_err-push_lines-clause-begun g c = exchange_front _ _ _ c.args.list.now c.in_ok-block.block c.in_ok-block.ensures.ok c.in_err-push_lines.ensures.begun

pub returns-in_err-push-clause-begun : goal.returns-in_err-push-clause-begun
returns-in_err-push-clause-begun g c = exchange_front _ _ _ c.args.list.now c.in_ok-block.block c.in_ok-block.ensures.ok c.in_ok-push_lines.ensures.begun

pub returns-in_err-finish-clause-begun : goal.returns-in_err-finish-clause-begun
returns-in_err-finish-clause-begun g c =
    begun_left _ _ _ _ _ _ (exchange_begun _ _ _ c.args.list.now c.in_ok-block.block c.push_lines.new.block (length c.args.list.now) c.as_bytes.result.now _
    c.in_ok-block.ensures.ok refl (c.as_bytes.ensures.value ∙ c.in_ok-end.ensures.ok) c.in_ok-push.ensures.pushed c.in_ok-push_lines.ensures.ok) c.in_err-finish.ensures.begun

pub returns-clause-begun : goal.returns-clause-begun
returns-clause-begun g c =
    begun_left _ _ _ _ _ _ (exchange_begun _ _ _ c.args.list.now c.in_ok-block.block c.push_lines.new.block (length c.args.list.now) c.as_bytes.result.now _
    c.in_ok-block.ensures.ok refl (c.as_bytes.ensures.value ∙ c.in_ok-end.ensures.ok) c.in_ok-push.ensures.pushed c.in_ok-push_lines.ensures.ok) c.in_ok-finish.ensures.begun

pub returns-clause-written : goal.returns-clause-written
returns-clause-written g c =
    begun_whole _ c.args.writer.now c.push_lines.new.writer c.finish.new.writer _ _ (exchange_begun _ _ _ c.args.list.now c.in_ok-block.block c.push_lines.new.block (length c.args.list.now) c.as_bytes.result.now _
    c.in_ok-block.ensures.ok refl (c.as_bytes.ensures.value ∙ c.in_ok-end.ensures.ok) c.in_ok-push.ensures.pushed c.in_ok-push_lines.ensures.ok) c.in_ok-finish.ensures.ok

pub returns-clause-received : goal.returns-clause-received
returns-clause-received g c = λ limit held well joinable fits.
    list_received limit held c.args.list.now (length c.args.list.now) refl (search) c.in_ok-push_lines.ensures.writable well joinable fits
