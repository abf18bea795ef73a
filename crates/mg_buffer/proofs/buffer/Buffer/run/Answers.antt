use Rattle.mg_buffer.proofs.Prelude.{rules, ◌≡◌, Bool, length, sym, ap, subst, ◌∙◌, Ok, Err, Result, text, text_after, new_characters, edit_answer, splices_answer, Effect, Notice, stored, growth_answer, fault_of, run_answer, State, CommandCall, Notes, command_call, effect_of_call, situation_of}
use Rattle.mg_plain.specs.Effect.{Effect, IsWithinText}
use Rattle.mg_plain.proofs.EffectLaws.{effect-within}
use Rattle.mg_buffer.specs.Following.{TakesUnsaved}
use Rattle.mg_buffer.proofs.PlaceLaws.{if_some, is_view}
use Rattle.mg_buffer.proofs.TakingLaws.{edited_taken}
use Rattle.mg_buffer.proofs.buffer.Buffer.run.Given.{Over}
use Rattle.mg_buffer.proofs.buffer.Buffer.run.Goals.{In_ok-plan}
use Rattle.mg_buffer.proofs.buffer.Buffer.run.Goals as goal

-- what a command does stays within the text, so that its places are never refused
module _ (call : CommandCall) (b : State) (notes : Notes) (plan : Effect) (due : effect_of_call call b notes ≡ Ok plan) where
  within_text : IsWithinText (situation_of b notes) plan
  within_text = effect-within call.command call.argument (situation_of b notes) call.fill plan (is_view b notes) due

  answered : run_answer call b notes ≡ stored (splices_answer b.limit b.content plan.splices)
  answered = ap (λ (r : Result Effect Notice). elim r [ Ok e ↦ stored (growth_answer b (new_characters e.splices)) | Err notice ↦ Err (fault_of notice) ]) due ∙ ap (λ (t : Bool). stored (edit_answer b.limit b.content t (new_characters plan.splices))) (sym within_text.falling)

module _ (g : Over) (c : In_ok-plan g) where
  abbrev call_of : CommandCall
  call_of = command_call c.args.command.now c.args.arg c.args.fill

  due : effect_of_call call_of c.planned.new.self c.args.memo.now ≡ Ok c.in_ok-plan.plan
  due = search rules

  within : IsWithinText (situation_of c.planned.new.self c.args.memo.now) c.in_ok-plan.plan
  within = within_text call_of c.planned.new.self c.args.memo.now c.in_ok-plan.plan due

  exact : run_answer call_of c.args.self.now c.args.memo.now ≡ stored (splices_answer c.planned.new.self.limit c.planned.new.self.content c.in_ok-plan.plan.splices)
  exact = ap (λ b. run_answer call_of b c.args.memo.now) (sym c.planned.ensures.same) ∙ answered call_of c.planned.new.self c.args.memo.now c.in_ok-plan.plan due

pub edit-requires-clause-point : goal.edit-requires-clause-point
edit-requires-clause-point g c = let w = (within g (goal.at.edit-requires-clause-point g c).In_ok-plan).point in search rules

pub edit-requires-clause-mark : goal.edit-requires-clause-mark
edit-requires-clause-mark g c =
    let w = if_some c.in_ok-plan.plan.mark (length (text_after (text c.planned.new.self.content) c.in_ok-plan.plan.splices)) (within g (goal.at.edit-requires-clause-mark g c).In_ok-plan).mark in
    search rules

pub returns-in_err-edit-clause-exact : goal.returns-in_err-edit-clause-exact
returns-in_err-edit-clause-exact g c = let w = exact g (goal.at.returns-in_err-edit-clause-exact g c).In_ok-plan in search rules

pub returns-clause-took : goal.returns-clause-took
returns-clause-took g c = subst (λ (b : State). TakesUnsaved b c.edit.new.self) c.planned.ensures.same (edited_taken c.in_ok-edit.ensures.edited)
