-- What a byte that is pressed leads to.
use Rattle.std.specs.Prelude.{◌≡◌, ◌⊎◌, ℕ, Some, None, Result, Ok, Err, MatchResult}
use Rattle.mg_plain.specs.declared.command.Command.TheVariants.{ReplaceOne}
use Rattle.mg_plain.specs.Memory.{NoticeMemory}
use Rattle.mg_keys.specs.declared.step.Step.{Step}
use Rattle.mg_keys.specs.declared.step.Step.TheVariants.{Pending, Leave, Unbound}
use Rattle.mg_minibuffer.specs.declared.ending.Action.{Action}
use Rattle.mg_minibuffer.specs.declared.ending.Action.TheVariants.{Nothing, Run}
use Rattle.mg_minibuffer.specs.declared.ending.Ending.{Ending}
use Rattle.mg_minibuffer.specs.declared.ending.Next as prompt_behind
use Rattle.mg_minibuffer.specs.declared.ending.Next.TheVariants.{Same, Closed}
use Rattle.mg_minibuffer.specs.declared.ending.Reaction.{Reaction}
use Rattle.mg_minibuffer.specs.declared.ending.Reaction.TheVariants.{Ends, Replaces, Accepts}
use Rattle.mg_minibuffer.specs.declared.ending.Request.{Request}
use Rattle.mg_minibuffer.specs.declared.ending.Request.TheVariants.{Idle}
use Rattle.mg_minibuffer.specs.declared.message.Message.TheVariants as message
use Rattle.mg_minibuffer.specs.declared.prompt.Prompt.TheVariants.{Searching}
use Rattle.mg_minibuffer.specs.declared.prompt.Search.{Search}
use Rattle.mg_minibuffer.specs.Endings.{ending_of}
use Rattle.mg_minibuffer.specs.PlainStep.{plain_step}
use Rattle.mg_minibuffer.specs.PromptStep.{prompt_step}
use Rattle.mg_minibuffer.specs.ReplacementStep.{asks_at_next_match, sum}
use Rattle.mg_minibuffer.specs.SearchStep.{or_last}
use Rattle.mg_minibuffer.specs.Dialogues.{Dialogue, Fed, shown, forgotten, search_of, accepted_search}
use Rattle.mg_workspace.specs.Actions.{Done}
use Rattle.mg_workspace.specs.Workspaces.{scene_of}
use Rattle.mg_workspace.specs.declared.fault.ActionFault.TheVariants.{Refused}
use Rattle.mg_workspace.specs.declared.fault.Cause.{Cause}
use Rattle.mg_editor.specs.Editors.{Editor}
use Rattle.mg_editor.specs.Telling.{message_of_cause}
use Rattle.rga_ops.specs.declared.out_of_memory.OutOfMemory.{OutOfMemory}

abbrev pub PressAnswer : Type 0
PressAnswer = Result Request OutOfMemory

-- where memory was wanting: nothing changed, but that the key sequence begun is forgotten
abbrev pub ran_out : Editor → Editor
ran_out e = record e { talk = forgotten e.talk }

-- ---- a step

-- an action was refused: why is said, this is the prompt then, and nothing is requested
abbrev pub Refuses : Action → prompt_behind.Next → Editor → Editor → Request → Type 0
Refuses action next old new request =
    (cause : Cause) × Done action old.work (new.work, Err (Refused cause)) × (new.talk ≡ shown next (message_of_cause cause) old.talk) × (request ≡ Idle)

-- the action of an ending was done, and its prompt, its message and its request follow; or it was refused
abbrev pub Ended : Ending → Editor → Editor → Request → Type 0
Ended e old new request =
    (Done e.action old.work (new.work, Ok tt) × (new.talk ≡ shown e.next e.message old.talk) × (request ≡ e.request))
    ⊎ Refuses e.action e.refused old new request

-- query-replace ends where memory is wanting for the search of the next match
abbrev pub ending_without_memory : Ending
ending_without_memory = ending_of Nothing Closed (message.Refused NoticeMemory)

-- What a reaction asks for. The match at point is replaced, and then the next one is looked for; a replacement that is
-- refused leaves the question open. Where a search is accepted the prompt closes.
abbrev pub FollowsReaction : Reaction → Editor → Editor → Request → Type 0
FollowsReaction (Ends e) old new request = Ended e old new request
FollowsReaction (Replaces pattern put count) old new request =
    ((mid : Editor) × (e : Ending) × Done (Run (ReplaceOne pattern put) 1) old.work (mid.work, Ok tt) × (mid.talk ≡ old.talk)
    × ((e ≡ asks_at_next_match pattern put (sum count 1) (scene_of mid.work)) ⊎ (e ≡ ending_without_memory)) × Ended e mid new request)
    ⊎ Refuses (Run (ReplaceOne pattern put) 1) Same old new request
FollowsReaction Accepts old new request = (new ≡ record old { talk = accepted_search old.talk }) × (request ≡ Idle)

-- the reaction to a step, at the open prompt or without one
abbrev pub editor_reaction : Step → Editor → Reaction
editor_reaction step e = elim e.talk.prompt [
  | None ↦ Ends (plain_step step (scene_of e.work))
  | Some p ↦ prompt_step p step (scene_of e.work) e.talk.last
]

-- A step was taken, or memory was wanting, and what stood before its byte stands again. One that waits for more bytes
-- changes nothing.
abbrev pub StepTaken : Step → Editor → Editor → Editor → PressAnswer → Type 0
StepTaken Pending before old new r = (new ≡ old) × (r ≡ Ok Idle)
StepTaken step before old new r = MatchResult r (FollowsReaction (editor_reaction step old) old new) (λ _. new ≡ ran_out before)

-- ---- a byte

-- The step that is taken of a byte whose first reading gives that one. A byte that leaves an open search accepts it, and is
-- read again with no prompt open; where no search is open it is no key.
abbrev pub IsRead : ℕ → Step → Dialogue → Step → Dialogue → Type 0
IsRead byte Leave fed step read = elim (search_of fed.prompt) [
  | None ↦ (step ≡ Unbound) × (read ≡ fed)
  | Some s ↦ Fed byte step (accepted_search fed) read
]
IsRead byte first fed step read = (step ≡ first) × (read ≡ fed)

-- an editor whose prompt is that search, and one that accepted it: the prompt closes, and nothing is said
abbrev pub with_search : Search → Editor → Editor
with_search s e = record e { talk = record e.talk { prompt = Some (Searching s) } }

abbrev pub with_search_accepted : Search → Editor → Editor
with_search_accepted s e = record e { talk = record e.talk { prompt = None; message = message.Nothing; last = or_last s.pattern e.talk.last } }

-- the byte is read, and its step is taken
pub record Pressed (byte : ℕ) (old new : Editor) (r : PressAnswer) : Type 0 where
  pub first : Step
  pub fed : Dialogue
  pub feeds : Fed byte first old.talk fed
  pub step : Step
  pub read : Dialogue
  pub reads : IsRead byte first fed step read
  pub taken : StepTaken step old (record old { talk = read }) new r
