use Rattle.std.proofs.Common.{◌≡◌, sym, ap, ◌∙◌, subst}
use Rattle.rga_ops.specs.Content.{Content, nothing}
use Rattle.rga_store.specs.Kept.{Kept}
use Rattle.rga_store.specs.Limit.{is_limit}
use Rattle.rga_flat.specs.Flat.{IsFlat}
use Rattle.rga_flat.specs.Waiting.{under, has_list}
use Rattle.rga_flat.proofs.EntryLaws.{either}
use Rattle.rga_flat.proofs.WaitingLaws.{none_under, none_listed}
use Rattle.rga_flat.proofs.FlatLaws.{flat_nothing}
use Rattle.rga_flat.proofs.flat_store.FlatStoreTextStore.new.Goals as goal

pub invariant_of-result : goal.invariant_of-result
invariant_of-result c =
    either (is_limit c.args.limit)
    (λ t.
    let made = sym c.in_ok-records.was ∙ c.new.ensures.made t in
    let same : c.in_ok-records.records ≡ record { content = nothing; limit = c.args.limit } = cc in
    let empty : c.in_ok-records.records.content ≡ nothing = ap (λ (v : Kept). v.content) same in
    subst (λ (d : Content). IsFlat d c.new-2.result (under c.new-3.result) (has_list c.new-3.result)) (sym empty)
    (flat_nothing c.new-2.result (under c.new-3.result) (has_list c.new-3.result) c.new-2.ensures (none_under c.new-3.result c.new-3.ensures.empty) (none_listed c.new-3.result c.new-3.ensures.empty)))
    (λ f. let clash = sym c.in_ok-records.was ∙ c.new.ensures.range f in absurd (cc))
