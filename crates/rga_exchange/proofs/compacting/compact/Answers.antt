use Rattle.std.proofs.Common.{◌∙◌, sym, ap}
use Rattle.rga_ops.specs.Operations.{operations}
use Rattle.rga_exchange.proofs.FindingLaws.{content_of_listed}
use Rattle.rga_exchange.proofs.compacting.compact.Goals as goal

pub compact_ops-requires-clause-all : goal.compact_ops-requires-clause-all
compact_ops-requires-clause-all g c = (c.deref.ensures.value ∙ c.in_ok-ops.ensures.ok) ∙ ap operations (sym (content_of_listed (g.S.Taker.content c.args.store.now) c.deref.result.now (c.deref.ensures.value ∙ c.in_ok-ops.ensures.ok)))

pub compact_ops-requires-clause-sound : goal.compact_ops-requires-clause-sound
compact_ops-requires-clause-sound g c = rw (content_of_listed (g.S.Taker.content c.args.store.now) c.deref.result.now (c.deref.ensures.value ∙ c.in_ok-ops.ensures.ok)) c.known-known.ensures.sound

pub returns-clause-number : goal.returns-clause-number
returns-clause-number g c = rw (← content_of_listed (g.S.Taker.content c.args.store.now) c.deref.result.now (c.deref.ensures.value ∙ c.in_ok-ops.ensures.ok)) c.compact_ops.ensures.number

pub returns-clause-written : goal.returns-clause-written
returns-clause-written g c = rw (← content_of_listed (g.S.Taker.content c.args.store.now) c.deref.result.now (c.deref.ensures.value ∙ c.in_ok-ops.ensures.ok)) c.compact_ops.ensures.written

pub returns-clause-stands : goal.returns-clause-stands
returns-clause-stands g c = rw (← content_of_listed (g.S.Taker.content c.args.store.now) c.deref.result.now (c.deref.ensures.value ∙ c.in_ok-ops.ensures.ok)) c.compact_ops.ensures.stands

pub returns-clause-ended : goal.returns-clause-ended
returns-clause-ended g c = rw (← content_of_listed (g.S.Taker.content c.args.store.now) c.deref.result.now (c.deref.ensures.value ∙ c.in_ok-ops.ensures.ok)) c.compact_ops.ensures.ended

pub returns-clause-begun : goal.returns-clause-begun
returns-clause-begun g c = rw (← content_of_listed (g.S.Taker.content c.args.store.now) c.deref.result.now (c.deref.ensures.value ∙ c.in_ok-ops.ensures.ok)) c.compact_ops.ensures.begun
