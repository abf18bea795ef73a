use Rattle.std.proofs.Common.{List, Ok, ap, refl, ℕ, ◌-◌, ◌∙◌}
use Rattle.rga_ops.specs.Splice.{Splice}
use Rattle.mg_plain.specs.Cases.{character_splices, first_word_character, recased_char}
use Rattle.mg_plain.specs.Effect.{Effect, edit_effect}
use Rattle.mg_plain.specs.Situation.{Situation}
use Rattle.mg_plain.proofs.CaseLaws.{is_due}
use Rattle.mg_plain.proofs.cases.recase_up_to.Goals as goal

pub returns : goal.returns
returns c =
    let F : Situation → List Splice = λ s. character_splices (recased_char c.args.casing (first_word_character s.text s.point)) s.text s.point (c.args.end - s.point) in
    let there : Effect → Effect = λ e. record e { point = c.args.end } in
    let first = ap (λ (k : ℕ). character_splices (recased_char c.args.casing k) c.view.inside.text.now c.view.inside.point (c.args.end - c.view.inside.point)) c.first_word_character-first.ensures in
    let splices = c.in_ok-splices.ensures ∙ first ∙ ap F c.view.view_is in
    record {
      exact = λ _. ap Ok (ap there (c.plan.view_is ∙ is_due _ _ c.in_ok-plan.ensures ∙ ap (edit_effect c.args.view.now) splices));
      memory = λ _. refl;
    }
