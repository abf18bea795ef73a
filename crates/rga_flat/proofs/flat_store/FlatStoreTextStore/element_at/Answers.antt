use Rattle.std.proofs.Common.{ap, ◌∙◌}
use Rattle.std.specs.List.{slice_get}
use Rattle.rga_ops.specs.Places.{visible}
use Rattle.rga_store.specs.Kept.{Kept}
use Rattle.rga_flat.proofs.ReadingLaws.{visible_shown}
use Rattle.rga_flat.proofs.flat_store.FlatStoreTextStore.element_at.Goals as goal

pub returns : goal.returns
returns c =
    c.element_at.ensures
    ∙ ap (λ xs. slice_get xs c.args.k) (visible_shown c.self.inside.records.content c.self.inside.sequence c.self.invariant.listed c.self.invariant.shown)
    ∙ ap (λ (v : Kept). slice_get (visible v.content) c.args.k) c.self.view_is
