-- Characters that are typed at a prompt: nothing is requested, the prompt takes text still, and no more than one command runs.
use Rattle.std.proofs.Common.{◌≡◌, inl, inr, ◌∙◌, ℕ, ◌+◌, Bool, true, false, List, [], ◌∷◌, ◌++◌, length, Option, Some, None, refl, sym, ap, true≢false}
use Rattle.std.specs.Prelude.{nat_lt, if◌then◌else◌}
use Rattle.mg_plain.specs.declared.outcome.Notice.TheVariants.{SearchFailed}
use Rattle.mg_keys.specs.declared.step.Step.TheVariants.{Text}
use Rattle.mg_minibuffer.specs.declared.ending.Action.TheVariants.{Nothing, Run}
use Rattle.mg_minibuffer.specs.declared.ending.Ending.{Ending}
use Rattle.mg_minibuffer.specs.declared.ending.Next.TheVariants.{Same, Open}
use Rattle.mg_minibuffer.specs.declared.ending.Request.{Request}
use Rattle.mg_minibuffer.specs.declared.ending.Request.TheVariants.{Idle}
use Rattle.mg_minibuffer.specs.declared.message.Message.TheVariants as message
use Rattle.mg_minibuffer.specs.declared.prompt.Prompt.{Prompt}
use Rattle.mg_minibuffer.specs.declared.prompt.Prompt.TheVariants.{Line, Replacement, Searching}
use Rattle.mg_minibuffer.specs.declared.prompt.Search.{Search}
use Rattle.mg_minibuffer.specs.Endings.{ending_of, shows}
use Rattle.mg_minibuffer.specs.PromptStep.{prompt_step}
use Rattle.mg_minibuffer.specs.Scenes.{Scene}
use Rattle.mg_minibuffer.specs.SearchStep.{command, failed, from_match, goes_to, sought, with_match, with_pattern}
use Rattle.mg_minibuffer.specs.Typing.{longest_answer, typed}
use Rattle.mg_minibuffer.specs.Dialogues.{Dialogue, prompt_after, takes_text}
use Rattle.mg_workspace.specs.Workspaces.{scene_of}
use Rattle.mg_editor.specs.Editors.{Editor}
use Rattle.mg_editor.specs.Pasting.{PasteAnswer, Types}
use Rattle.mg_editor.specs.Presses.{Ended, FollowsReaction, editor_reaction}
use Rattle.mg_editor.proofs.ActionCases.{IsQuiet, RunsOne, ended_so, quiet_runs}

-- ---- one character

abbrev Stays : Editor → Editor → Request → Type 0
Stays old new request = (request ≡ Idle) × (takes_text new.talk.prompt ≡ true) × RunsOne old.work new.work

stays : (e : Ending) (old new : Editor) (request : Request) → IsQuiet e → e.request ≡ Idle → takes_text (prompt_after e.next old.talk.prompt) ≡ true → takes_text (prompt_after e.refused old.talk.prompt) ≡ true
    → Ended e old new request → Stays old new request
stays e old new request quiet idle ready still it =
    let talked = by it in
    let did = ended_so e old new request it in
    (talked.0, talked.1, quiet_runs e old.work new.work did.0 quiet did.1)
  where
    by : Ended e old new request → (request ≡ Idle) × (takes_text new.talk.prompt ≡ true)
    by (inl t) = (t.2 ∙ idle, ap (λ (d : Dialogue). takes_text d.prompt) t.1 ∙ ready)
    by (inr t) = (t.3, ap (λ (d : Dialogue). takes_text d.prompt) t.2 ∙ still)

searches : (s : Search) (more : Bool) (found : Option (ℕ × ℕ)) (old new : Editor) (request : Request) → takes_text old.talk.prompt ≡ true
    → FollowsReaction (if more then elim found [ Some (i, m) ↦ goes_to s i m | None ↦ failed Same ] else shows Same message.Nothing) old new request → Stays old new request
searches s true (Some (i, m)) old new request takes it = stays (ending_of (Run (command s i) 1) (Open (Searching (with_match s m))) message.Nothing) old new request (inr (command s i, refl)) refl refl takes it
searches s true None old new request takes it = stays (ending_of Nothing Same (message.Refused SearchFailed)) old new request (inl refl) refl takes takes it
searches s false found old new request takes it = stays (ending_of Nothing Same message.Nothing) old new request (inl refl) refl takes takes it

at_prompt : (c : ℕ) (p : Prompt) (scene : Scene) (last : List ℕ) (old new : Editor) (request : Request) → takes_text (Some p) ≡ true → takes_text old.talk.prompt ≡ true
    → FollowsReaction (prompt_step p (Text c) scene last) old new request → Stays old new request
at_prompt c (Line asked answer) scene last old new request is takes it = stays (ending_of Nothing (Open (Line asked (typed answer c))) message.Nothing) old new request (inl refl) refl refl takes it
at_prompt c (Replacement pattern answer) scene last old new request is takes it = stays (ending_of Nothing (Open (Replacement pattern (typed answer c))) message.Nothing) old new request (inl refl) refl refl takes it
at_prompt c (Searching s) scene last old new request is takes it =
    let longer : Search = with_pattern s (s.pattern ++ c ∷ []) in
    searches longer (nat_lt (length s.pattern) longest_answer) (sought scene.text longer (from_match s)) old new request takes it
at_prompt c p scene last old new request is takes it = absurd (true≢false (sym is))

pub typed_one : (c : ℕ) (old new : Editor) (request : Request) → takes_text old.talk.prompt ≡ true → FollowsReaction (editor_reaction (Text c) old) old new request → Stays old new request
typed_one c old new request takes it = by old.talk.prompt takes it
  where
    by : (p : Option Prompt) → takes_text p ≡ true → FollowsReaction (editor_reaction (Text c) (record old { talk = record old.talk { prompt = p } })) old new request → Stays old new request
    by None is it = absurd (true≢false (sym is))
    by (Some p) is it = at_prompt c p (scene_of old.work) old.talk.last old new request is takes it

-- ---- a line of them

abbrev pub LeadsOn : List ℕ → Editor → List ℕ → Editor → Type 0
LeadsOn left now line old = (new : Editor) (r : PasteAnswer) → Types left now new r → Types line old new r
