use Rattle.std.proofs.Common.{◌∙◌}
use Rattle.rga_brief.proofs.MissingLaws.{missing_received}
use Rattle.rga_brief.proofs.telling.send_missing.Goals as goal

pub returns-clause-received : goal.returns-clause-received
returns-clause-received g c =
    missing_received c.send_list.result (g.S.Taker.content c.args.store.now) c.args.peer.now c.deref.result.now (c.deref.ensures.value ∙ c.in_ok-ops.ensures.ok) c.send_list.ensures.received
