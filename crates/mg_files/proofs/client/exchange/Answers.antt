use Rattle.std.proofs.Common.{rules, [], ◌∷◌, Err, refl, ◌∙◌}
use Rattle.mg_files.specs.declared.port.CallKind.TheVariants.{Connect, Finish}
use Rattle.mg_files.specs.Calls.{link_call, link_refusals}
use Rattle.mg_files.specs.Asking.{Connects}
use Rattle.mg_files.specs.Meeting.{Unsaved, Unopened, Unsent, Unended}
use Rattle.mg_files.proofs.MeetingLaws.{adds_then, saves_gain, over, begins, sends_first, then_hears, ends, unasked, turned}
use Rattle.mg_files.proofs.client.exchange.Goals as goal

pub returns-in_err-save-clause-exchanges : goal.returns-in_err-save-clause-exchanges
returns-in_err-save-clause-exchanges g c =
    over Connects (Unsaved c.in_err-save.field-0.0) (search rules) c.in_err-save.ensures.saves (saves_gain (Err c.in_err-save.field-0.0) _ _ _ _ c.in_err-save.ensures.saves) c.in_err-save.ensures.links

pub returns-in_err-connect-clause-exchanges : goal.returns-in_err-connect-clause-exchanges
returns-in_err-connect-clause-exchanges g c =
    let e = c.in_ok-save.ensures in
    ends _ e.saves Connects (Unopened c.in_err-connect.field-0.0) (link_refusals c.in_err-connect.field-0.0 (link_call Connect)) (search rules)
    c.in_err-connect.ensures.tells (λ left. (left, c.in_err-connect.ensures.links ∙ e.links))

pub returns-in_err-peer-clause-exchanges : goal.returns-in_err-peer-clause-exchanges
returns-in_err-peer-clause-exchanges g c =
    let e = c.in_ok-save.ensures in
    let o = c.in_ok-connect.ensures in
    unasked _ e.saves Connects c.in_err-peer.field-0.0 (search rules) o.tells (begins c.ask.new.link e.links o.opens refl c.new-writer.ensures c.in_err-peer.ensures)

pub returns-in_err-sent-clause-exchanges : goal.returns-in_err-sent-clause-exchanges
returns-in_err-sent-clause-exchanges g c =
    let e = c.in_ok-save.ensures in
    let o = c.in_ok-connect.ensures in
    ends _ e.saves Connects (Unsent c.in_err-sent.field-0.0) (link_call Connect ∷ []) (search rules) o.tells
    (λ left. (left, sends_first c.in_ok-peer.peer c.ask.new.link c.tell.new.writer e.links o.opens refl c.new-writer.ensures c.in_ok-peer.ensures c.in_err-sent.ensures))

pub returns-in_err-finish-clause-exchanges : goal.returns-in_err-finish-clause-exchanges
returns-in_err-finish-clause-exchanges g c =
    let e = c.in_ok-save.ensures in
    let o = c.in_ok-connect.ensures in
    let refused = link_refusals c.in_err-finish.field-0.0 (link_call Finish) in
    ends _ e.saves Connects (Unended c.in_err-finish.field-0.0) (link_call Connect ∷ refused) (search rules) (adds_then _ _ _ (link_call Connect ∷ []) refused o.tells c.in_err-finish.ensures.tells)
    (λ left. (left, (c.in_ok-sent.sent, sends_first c.in_ok-peer.peer c.ask.new.link c.tell.new.writer e.links o.opens c.finish.ensures.links c.new-writer.ensures c.in_ok-peer.ensures c.in_ok-sent.ensures)))

pub returns-in_err-received-clause-exchanges : goal.returns-in_err-received-clause-exchanges
returns-in_err-received-clause-exchanges g c =
    let e = c.in_ok-save.ensures in
    let o = c.in_ok-connect.ensures in
    turned _ e.saves (g.P.Port.calls c.finish.new.self) c.save-2.result c.save-2.ensures.saves (search rules) c.in_err-received.ensures.answer
    (adds_then _ _ _ (link_call Connect ∷ []) (link_call Finish ∷ []) o.tells c.in_ok-finish.ensures.tells)
    (then_hears (sends_first c.in_ok-peer.peer c.ask.new.link c.tell.new.writer e.links o.opens (c.save-2.ensures.links ∙ c.finish.ensures.links) c.new-writer.ensures c.in_ok-peer.ensures c.in_ok-sent.ensures)
    c.into_inner-link.ensures c.finish.ensures.bytes c.new-reader.ensures c.hear-heard.ensures)

pub returns-clause-exchanges : goal.returns-clause-exchanges
returns-clause-exchanges g c =
    let e = c.in_ok-save.ensures in
    let o = c.in_ok-connect.ensures in
    turned _ e.saves (g.P.Port.calls c.finish.new.self) c.save-2.result c.save-2.ensures.saves refl c.in_ok-received.ensures.answer
    (adds_then _ _ _ (link_call Connect ∷ []) (link_call Finish ∷ []) o.tells c.in_ok-finish.ensures.tells)
    (then_hears (sends_first c.in_ok-peer.peer c.ask.new.link c.tell.new.writer e.links o.opens (c.save-2.ensures.links ∙ c.finish.ensures.links) c.new-writer.ensures c.in_ok-peer.ensures c.in_ok-sent.ensures)
    c.into_inner-link.ensures c.finish.ensures.bytes c.new-reader.ensures c.hear-heard.ensures)
