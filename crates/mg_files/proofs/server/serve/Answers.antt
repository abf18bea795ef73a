use Rattle.std.proofs.Common.{rules, Ok, Err, refl, ◌∙◌}
use Rattle.mg_files.specs.declared.port.CallKind.TheVariants.{Accept}
use Rattle.mg_files.specs.Calls.{link_call, link_refusals}
use Rattle.mg_files.specs.Asking.{Waits}
use Rattle.mg_files.specs.Meeting.{Unsaved, Unopened}
use Rattle.mg_files.proofs.MeetingLaws.{saves_gain, over, begins, hears_first, then_sends, ends, unasked, waited}
use Rattle.mg_files.proofs.server.serve.Goals as goal

pub returns-in_err-save-clause-serves : goal.returns-in_err-save-clause-serves
returns-in_err-save-clause-serves g c =
    over Waits (Unsaved c.in_err-save.field-0.0) (search rules) c.in_err-save.ensures.saves (saves_gain (Err c.in_err-save.field-0.0) _ _ _ _ c.in_err-save.ensures.saves) c.in_err-save.ensures.links

pub returns-in_err-accept-clause-serves : goal.returns-in_err-accept-clause-serves
returns-in_err-accept-clause-serves g c =
    let e = c.in_ok-save.ensures in
    ends _ e.saves Waits (Unopened c.in_err-accept.field-0.0) (link_refusals c.in_err-accept.field-0.0 (link_call Accept)) (search rules)
    c.in_err-accept.ensures.tells (λ left. (left, c.in_err-accept.ensures.links ∙ e.links))

pub returns-in_err-peer-clause-serves : goal.returns-in_err-peer-clause-serves
returns-in_err-peer-clause-serves g c =
    let e = c.in_ok-save.ensures in
    let o = c.in_ok-accept.ensures in
    unasked _ e.saves Waits c.in_err-peer.field-0.0 (search rules) o.tells (begins c.answer.new.link e.links o.opens refl c.new-reader.ensures c.in_err-peer.ensures)

pub returns-in_err-received-clause-serves : goal.returns-in_err-received-clause-serves
returns-in_err-received-clause-serves g c =
    let e = c.in_ok-save.ensures in
    let o = c.in_ok-accept.ensures in
    waited _ e.saves (g.P.Port.calls c.accept.new.self) c.save-2.result c.save-2.ensures.saves (Ok 0) (search rules) c.in_err-received.ensures.answer o.tells
    (hears_first c.in_ok-peer.peer c.answer.new.link c.hear-heard.new.reader e.links o.opens c.save-2.ensures.links c.new-reader.ensures c.in_ok-peer.ensures c.hear-heard.ensures) refl

pub returns-in_err-sent-clause-serves : goal.returns-in_err-sent-clause-serves
returns-in_err-sent-clause-serves g c =
    let e = c.in_ok-save.ensures in
    let o = c.in_ok-accept.ensures in
    waited _ e.saves (g.P.Port.calls c.accept.new.self) c.save-2.result c.save-2.ensures.saves (Err c.in_err-sent.field-0.0) (search rules) c.in_ok-received.ensures.answer o.tells
    (hears_first c.in_ok-peer.peer c.answer.new.link c.hear-heard.new.reader e.links o.opens c.save-2.ensures.links c.new-reader.ensures c.in_ok-peer.ensures c.hear-heard.ensures)
    (then_sends _ _ c.tell.new.writer c.into_inner.ensures c.new-writer.ensures c.in_err-sent.ensures)

pub returns-clause-serves : goal.returns-clause-serves
returns-clause-serves g c =
    let e = c.in_ok-save.ensures in
    let o = c.in_ok-accept.ensures in
    waited _ e.saves (g.P.Port.calls c.accept.new.self) c.save-2.result c.save-2.ensures.saves (Ok c.in_ok-sent.sent) refl c.in_ok-received.ensures.answer o.tells
    (hears_first c.in_ok-peer.peer c.answer.new.link c.hear-heard.new.reader e.links o.opens c.save-2.ensures.links c.new-reader.ensures c.in_ok-peer.ensures c.hear-heard.ensures)
    (then_sends _ _ c.tell.new.writer c.into_inner.ensures c.new-writer.ensures c.in_ok-sent.ensures)
