-- What holds behind each reaction holds behind a press, and what query-replace runs.
use Rattle.std.proofs.Common.{◌≡◌, ◌⊎◌, inl, inr, ◌∙◌, ℕ, List, Option, Some, None, Ok, Err, MatchResult, refl, sym, ap, subst}
use Rattle.mg_minibuffer.specs.Dialogues.{Dialogue}
use Rattle.mg_plain.specs.Matches.{found_match}
use Rattle.mg_plain.specs.declared.command.Command.TheVariants.{ReplaceOne, SearchForward}
use Rattle.mg_plain.specs.declared.steps.Direction.TheVariants.{Forward}
use Rattle.mg_keys.specs.declared.step.Step.{Step}
use Rattle.mg_keys.specs.declared.step.Step.TheVariants as step
use Rattle.mg_minibuffer.specs.Endings.{ending_of}
use Rattle.mg_minibuffer.specs.ReplacementStep.{asks_at_next_match, sum}
use Rattle.mg_minibuffer.specs.Scenes.{Scene}
use Rattle.mg_minibuffer.specs.declared.ending.Action.TheVariants.{Nothing, Run}
use Rattle.mg_minibuffer.specs.declared.ending.Ending.{Ending}
use Rattle.mg_minibuffer.specs.declared.ending.Next.TheVariants.{Closed, Open}
use Rattle.mg_minibuffer.specs.declared.ending.Reaction.{Reaction}
use Rattle.mg_minibuffer.specs.declared.ending.Reaction.TheVariants.{Replaces}
use Rattle.mg_minibuffer.specs.declared.ending.Request.{Request}
use Rattle.mg_minibuffer.specs.declared.message.Message.TheVariants as message
use Rattle.mg_minibuffer.specs.declared.prompt.Prompt.TheVariants.{Replacing}
use Rattle.mg_workspace.specs.Workspaces.{Workspace, scene_of}
use Rattle.mg_workspace.specs.declared.fault.ActionFault.TheVariants.{Refused}
use Rattle.mg_editor.specs.Editors.{Editor}
use Rattle.mg_editor.specs.Presses.{PressAnswer, FollowsReaction, Pressed, StepTaken, ending_without_memory, ran_out}
use Rattle.mg_editor.proofs.ActionCases.{IsQuiet, RunsOne, ended_so, quiet_runs}

module _ (Holds : Workspace → Type 0) where
  answered : (reaction : Reaction) (before old new : Editor) (r : PressAnswer) → before.work ≡ old.work → Holds old.work → ((request : Request) → FollowsReaction reaction old new request → Holds new.work)
      → MatchResult r (FollowsReaction reaction old new) (λ _. new ≡ ran_out before) → Holds new.work
  answered reaction before old new (Ok request) same so follows it = follows request it
  answered reaction before old new (Err fault) same so follows it = subst Holds (sym (ap (λ (e : Editor). e.work) it ∙ same)) so

  took : (step : Step) (before old new : Editor) (r : PressAnswer) → before.work ≡ old.work → Holds old.work → ((reaction : Reaction) (request : Request) → FollowsReaction reaction old new request → Holds new.work)
      → StepTaken step before old new r → Holds new.work
  took step.Pending before old new r same so follows it = subst Holds (sym (ap (λ (e : Editor). e.work) it.0)) so
  took step before old new r same so follows it = answered _ before old new r same so (follows _) it

  pub behind_a_press : (byte : ℕ) (old new : Editor) (r : PressAnswer) → Holds old.work
      → ((reaction : Reaction) (request : Request) (read : Dialogue) → FollowsReaction reaction (record old { talk = read }) new request → Holds new.work) → Pressed byte old new r → Holds new.work
  behind_a_press byte old new r so follows p =
      took p.step old (record old { talk = p.read }) new r refl so (λ reaction request it. follows reaction request p.read it) p.taken

-- ---- the match at point was replaced, and the next one looked for

searches : (pattern put : List ℕ) (count : ℕ) (scene : Scene) (e : Ending) → (e ≡ asks_at_next_match pattern put count scene) ⊎ (e ≡ ending_without_memory) → IsQuiet e
searches pattern put count scene e (inr is) = inl (ap (λ (x : Ending). x.action) is)
searches pattern put count scene e (inl is) = by (found_match Forward pattern scene.text scene.point) is
  where
    by : (o : Option ℕ) → e ≡ elim o [
      | Some i ↦ ending_of (Run (SearchForward pattern scene.point) 1) (Open (Replacing pattern put count)) message.Nothing
      | None ↦ ending_of Nothing Closed (message.Replaced count)
    ] → IsQuiet e
    by (Some i) found = inr (SearchForward pattern scene.point, ap (λ (x : Ending). x.action) found)
    by None found = inl (ap (λ (x : Ending). x.action) found)

-- one command and then another, if that
pub replaces : (pattern put : List ℕ) (count : ℕ) (old new : Editor) (request : Request) → FollowsReaction (Replaces pattern put count) old new request
    → (mid : Workspace) × RunsOne old.work mid × RunsOne mid new.work
replaces pattern put count old new request (inl t) =
    let did = ended_so t.1 t.0 new request t.5 in
    let quiet : IsQuiet t.1 = searches pattern put (sum count 1) (scene_of t.0.work) t.1 t.4 in
    (t.0.work, inr (ReplaceOne pattern put, Ok tt, t.2), quiet_runs t.1 t.0.work new.work did.0 quiet did.1)
replaces pattern put count old new request (inr t) = (new.work, inr (ReplaceOne pattern put, Err (Refused t.0), t.1), inl refl)
