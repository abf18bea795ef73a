use Rattle.std.proofs.Common.{ap, ◌∙◌}
use Rattle.rga_ops.specs.Order.{order}
use Rattle.rga_store.specs.Kept.{Kept}
use Rattle.rga_flat.proofs.flat_store.FlatStoreTextStore.order.Goals as goal

pub returns : goal.returns
returns c = record { ok = rw (← (c.self.invariant.listed ∙ ap (λ (v : Kept). order v.content) c.self.view_is)) c.ids.ensures.ok }
