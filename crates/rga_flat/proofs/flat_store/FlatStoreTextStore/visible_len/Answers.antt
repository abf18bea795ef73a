use Rattle.std.proofs.Common.{length, sym, ap, ◌∙◌, arith}
use Rattle.rga_ops.specs.Places.{visible}
use Rattle.rga_sequence.proofs.CountLaws.{count_ids}
use Rattle.rga_store.specs.Kept.{Kept}
use Rattle.rga_flat.proofs.ReadingLaws.{all_listed, visible_shown}
use Rattle.rga_flat.proofs.flat_store.FlatStoreTextStore.visible_len.Goals as goal

pub visible_len-requires : goal.visible_len-requires
visible_len-requires c =
    let all = all_listed c.self.inside.records.content c.self.inside.sequence c.self.invariant.listed c.self.invariant.shown in
    omega (arith, all, c.count_inserted-count.ensures.count, c.count_inserted-count.ensures.few)

pub returns : goal.returns
returns c =
    c.visible_len.ensures ∙ sym (count_ids c.self.inside.sequence)
    ∙ ap length (visible_shown c.self.inside.records.content c.self.inside.sequence c.self.invariant.listed c.self.invariant.shown)
    ∙ ap (λ (v : Kept). length (visible v.content)) c.self.view_is
