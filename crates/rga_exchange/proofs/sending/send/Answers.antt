use Rattle.std.proofs.Common.{◌∙◌}
use Rattle.rga_exchange.proofs.MeetingLaws.{content_received}
use Rattle.rga_exchange.proofs.sending.send.Goals as goal

-- the operations that are written are the store's
pub returns-clause-number : goal.returns-clause-number
returns-clause-number g c = rw (← (c.deref.ensures.value ∙ c.in_ok-ops.ensures.ok)) c.send_list.ensures.number

pub returns-clause-written : goal.returns-clause-written
returns-clause-written g c = rw (← (c.deref.ensures.value ∙ c.in_ok-ops.ensures.ok)) c.send_list.ensures.written

pub returns-clause-begun : goal.returns-clause-begun
returns-clause-begun g c = rw (← (c.deref.ensures.value ∙ c.in_ok-ops.ensures.ok)) c.send_list.ensures.begun

pub returns-clause-received : goal.returns-clause-received
returns-clause-received g c =
    content_received c.send_list.result (g.S.Taker.content c.args.store.now) c.deref.result.now (c.deref.ensures.value ∙ c.in_ok-ops.ensures.ok) c.send_list.ensures.received
