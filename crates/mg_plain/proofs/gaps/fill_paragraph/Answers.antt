use Rattle.std.proofs.Common.{List, Ok, ap, subst, ◌∙◌}
use Rattle.rga_ops.specs.Splice.{Splice}
use Rattle.mg_plain.specs.Answer.{IsEffectAnswer}
use Rattle.mg_plain.specs.Effect.{edit_effect}
use Rattle.mg_plain.specs.Gaps.{paragraph_filling}
use Rattle.mg_plain.specs.Situation.{Situation}
use Rattle.mg_plain.proofs.gaps.fill_paragraph.Goals as goal

pub returns : goal.returns
returns c =
    let F : Situation → List Splice = λ s. paragraph_filling c.args.column s.text s.point in
    let column = ap (λ k. paragraph_filling k c.view.inside.text.now c.view.inside.point) c.from.ensures in
    subst (λ (ss : List Splice). IsEffectAnswer c.edit.result (Ok (edit_effect c.args.view.now ss))) (c.in_ok-splices.ensures ∙ column ∙ ap F c.view.view_is) c.edit.ensures
