use Rattle.std.proofs.Common.{ap, ◌∙◌}
use Rattle.rga_ops.specs.Places.{visible}
use Rattle.rga_store.specs.Kept.{Kept}
use Rattle.rga_flat.proofs.ReadingLaws.{visible_shown}
use Rattle.rga_flat.proofs.flat_store.FlatStoreTextStore.elements.Goals as goal

pub returns : goal.returns
returns c = record { ok = rw (← (visible_shown _ _ c.self.invariant.listed c.self.invariant.shown ∙ ap (λ (v : Kept). visible v.content) c.self.view_is)) c.elements.ensures.ok }
