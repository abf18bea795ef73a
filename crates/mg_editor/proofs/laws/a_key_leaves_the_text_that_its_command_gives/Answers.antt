use Rattle.std.proofs.Common.{◌≡◌, ◌≢◌, ◌∷◌, [], ◌++◌, Option, Some, None, Ok, Err, inl, inr, sym, ap, subst, ◌∙◌, arith}
use Rattle.std.proofs.lemmas.List.{get_or-set_same}
use Rattle.rga_ops.specs.Order.{text}
use Rattle.mg_buffer.specs.Faults.{FaultVerdict}
use Rattle.mg_buffer.specs.Sight.{Notes}
use Rattle.mg_buffer.specs.State.{State}
use Rattle.mg_buffer.specs.OpenState.{OpenState}
use Rattle.mg_keys.specs.declared.step.Step.TheVariants.{Run}
use Rattle.mg_keys.specs.Begun.{Answers}
use Rattle.mg_minibuffer.specs.declared.ending.Reaction.TheVariants.{Ends}
use Rattle.mg_minibuffer.specs.declared.message.Message.TheVariants.{Nothing}
use Rattle.mg_minibuffer.specs.declared.prompt.Prompt.{Prompt}
use Rattle.mg_minibuffer.specs.PlainStep.{plain_step}
use Rattle.mg_minibuffer.specs.PromptStep.{prompt_step}
use Rattle.mg_minibuffer.specs.Dialogues.{Dialogue}
use Rattle.mg_workspace.specs.Actions.{ActionOutcome, ActsInCurrent, current_state, with_state_and_notes}
use Rattle.mg_workspace.specs.Workspaces.{Workspace, scene_of}
use Rattle.mg_workspace.specs.declared.fault.ActionFault.TheVariants.{Refused}
use Rattle.mg_workspace.specs.declared.fault.Cause.{Cause}
use Rattle.mg_editor.specs.Editors.{Editor}
use Rattle.mg_editor.specs.Presses.{FollowsReaction, IsRead, StepTaken}
use Rattle.mg_editor.specs.Telling.{message_of_cause}
use Rattle.mg_editor.proofs.laws.a_key_leaves_the_text_that_its_command_gives.Goals as goal

module _ (Becomes : State → Notes → Type 0) (w v : Workspace) where
  done : (verdict : FaultVerdict) → ActsInCurrent verdict Becomes w (v, Ok tt) → (b : State) × (notes : Notes) × Becomes b notes × (v ≡ with_state_and_notes b notes w)
  done verdict (inl lacks) = let no = ap (λ (o : ActionOutcome). o.1) lacks in cc
  done (Ok u) (inr t) = (t.0, t.1, t.2, ap (λ (o : ActionOutcome). o.0) t.3)
  done (Err e) (inr is) = let no = ap (λ (o : ActionOutcome). o.1) is in cc

  refused : (why : Cause) (verdict : FaultVerdict) → ActsInCurrent verdict Becomes w (v, Err (Refused why)) → (v ≡ w) × (message_of_cause why ≢ Nothing)
  refused why verdict acts = grind arith

pub returns : goal.returns
returns c = λ byte n bytes command old new request none begun key there p.
    let first = (subst (λ m. Answers m (bytes ++ byte ∷ []) p.first p.fed.keys) key (p.feeds.answers bytes begun)).0 in
    let reads = subst (λ s. IsRead byte s p.fed p.step p.read) first p.reads in
    let e : Editor = record old { talk = p.read } in
    let taken = subst (λ s. StepTaken s old e new (Ok request)) reads.0 p.taken in
    let prompt : p.read.prompt ≡ None = ap (λ (t : Dialogue). t.prompt) (reads.1 ∙ p.feeds.rest) ∙ none in
    let ended = subst (λ (o : Option Prompt). FollowsReaction (elim o [
      | None ↦ Ends (plain_step (Run command n) (scene_of old.work))
      | Some q ↦ prompt_step q (Run command n) (scene_of old.work) p.read.last
    ]) e new request) prompt taken in
    let bs = old.work.buffers in
    elim ended [
      | inl t ↦
          let ran = done _ old.work new.work _ t.0 in
          let now = ap (λ (w : Workspace). text (current_state w).content) ran.3 ∙ ap (λ (x : OpenState). text x.buffer.content) (get_or-set_same bs.all bs.current _ _ there) in
          inl (ran.2.plan, ran.2.due, now ∙ ran.2.edited.text)
      | inr t ↦ let why = refused _ old.work new.work t.0 _ t.1 in inr (why.0, λ is. why.1 (sym (ap (λ (t : Dialogue). t.message) t.2) ∙ is))
    ]
