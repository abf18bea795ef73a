use Rattle.std.proofs.Common.{ap, ◌∙◌}
use Rattle.rga_ops.specs.Order.{text}
use Rattle.rga_store.specs.Kept.{Kept}
use Rattle.rga_flat.proofs.ReadingLaws.{text_shown}
use Rattle.rga_flat.proofs.flat_store.FlatStoreTextStore.text.Goals as goal

pub returns : goal.returns
returns c = record { ok = rw (← (text_shown _ _ c.self.invariant.listed c.self.invariant.shown ∙ ap (λ (v : Kept). text v.content) c.self.view_is)) c.text.ensures.ok }
