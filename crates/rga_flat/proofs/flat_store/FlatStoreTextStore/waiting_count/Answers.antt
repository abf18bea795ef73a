use Rattle.std.proofs.Common.{◌≡◌, ℕ, ◌+◌, ◌-◌, ◌≤◌, Ok, length, ap, ◌∙◌, arith}
use Rattle.rga_ops.specs.Order.{waiting}
use Rattle.rga_store.specs.Kept.{Kept}
use Rattle.rga_flat.proofs.ReadingLaws.{all_listed}
use Rattle.rga_flat.proofs.flat_store.FlatStoreTextStore.waiting_count.Goals as goal

below : (o w n i s : ℕ) → o + w ≡ n → i ≡ n → s ≡ o → s ≤ i
below o w n i s p r q = omega arith

rest : (o w n i s : ℕ) → o + w ≡ n → i ≡ n → s ≡ o → i - s ≡ w
rest o w n i s p r q = omega arith

pub len-requires : goal.len-requires
len-requires c =
    let all = all_listed c.self.inside.records.content c.self.inside.sequence c.self.invariant.listed c.self.invariant.shown in
    omega (arith, all, c.count_inserted-count.ensures.count, c.count_inserted-count.ensures.few)

pub overflow_sub-result : goal.overflow_sub-result
overflow_sub-result c =
    below _ _ _ _ _ (all_listed c.self.inside.records.content c.self.inside.sequence c.self.invariant.listed c.self.invariant.shown) c.count_inserted-count.ensures.count c.len.ensures

pub returns : goal.returns
returns c = record {
  exact =
      ap Ok (rest _ _ _ _ _ (all_listed c.self.inside.records.content c.self.inside.sequence c.self.invariant.listed c.self.invariant.shown) c.count_inserted-count.ensures.count c.len.ensures
      ∙ ap (λ (v : Kept). length (waiting v.content)) c.self.view_is);
}
