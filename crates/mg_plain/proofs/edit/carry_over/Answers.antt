use Rattle.std.proofs.Common.{ap, drop, sym, ◌+◌, ◌∙◌, ◌∷◌}
use Rattle.std.proofs.lemmas.List.{drop_more}
use Rattle.mg_plain.specs.Effect.{place_after}
use Rattle.mg_plain.proofs.edit.carry_over.Goals as goal

pub loop-splice-preserved : goal.loop-splice-preserved
loop-splice-preserved c =
    let rest = drop (c.loop-splice.splice-index + 1) c.args.splices.now in
    let next = drop_more c.args.splices.now c.loop-splice.splice-index c.splice-item.result c.loop-splice-test.true ∙ ap (λ s. s ∷ rest) (sym c.splice-item.is) in
    c.loop-splice.invariant ∙ ap (λ ss. place_after ss c.loop-splice.place) next ∙ ap (place_after rest) (sym c.in_ok-place.ensures)
