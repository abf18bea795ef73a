use Rattle.std.proofs.Common.{◌≡◌, false, sym, ap, ◌∙◌, arith}
use Rattle.rga_ops.specs.Identifier.{is_root}
use Rattle.rga_ops.specs.Places.{place}
use Rattle.rga_store.specs.Kept.{Kept}
use Rattle.rga_flat.proofs.ReadingLaws.{all_listed, place_shown}
use Rattle.rga_flat.proofs.flat_store.FlatStoreTextStore.place_of.Goals as goal

pub place_of-requires : goal.place_of-requires
place_of-requires c =
    let all = all_listed c.self.inside.records.content c.self.inside.sequence c.self.invariant.listed c.self.invariant.shown in
    omega (arith, all, c.count_inserted-count.ensures.count, c.count_inserted-count.ensures.few)

pub returns : goal.returns
returns c =
    let proper : is_root c.args.id ≡ false = sym c.eq.ensures ∙ c.if-eq.false in
    c.place_of.ensures
    ∙ place_shown c.self.inside.records.content c.self.inside.sequence c.self.invariant.listed c.self.invariant.shown c.args.id proper
    ∙ ap (λ (v : Kept). place v.content c.args.id) c.self.view_is
