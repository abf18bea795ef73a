-- What is talked with the user.
use Rattle.std.specs.Prelude.{◌≡◌, ℕ, Bool, true, false, List, [], ◌∷◌, ◌++◌, Option, Some, None}
use Rattle.std.specs.Option.{option_map_or}
use Rattle.mg_keys.specs.Begun.{KeyState, HasBegun, Answers, fresh}
use Rattle.mg_keys.specs.Meaning.{meaning}
use Rattle.mg_keys.specs.declared.step.Mode.{Mode}
use Rattle.mg_keys.specs.declared.step.Mode.TheVariants as modes
use Rattle.mg_keys.specs.declared.step.Step.{Step}
use Rattle.mg_minibuffer.specs.Prompts.{mode}
use Rattle.mg_minibuffer.specs.declared.ending.Next as prompt_behind
use Rattle.mg_minibuffer.specs.declared.ending.Next.TheVariants.{Same, Closed, Open}
use Rattle.mg_minibuffer.specs.declared.message.Message.{Message}
use Rattle.mg_minibuffer.specs.declared.message.Message.TheVariants as message
use Rattle.mg_minibuffer.specs.declared.prompt.Prompt.{Prompt}
use Rattle.mg_minibuffer.specs.declared.prompt.Prompt.TheVariants.{Line, Replacement, Searching}
use Rattle.mg_minibuffer.specs.declared.prompt.Search.{Search}
pub use Rattle.mg_minibuffer.specs.SearchStep.{or_last}

-- the keys, the open prompt, the message, and the pattern that was accepted last
pub record Dialogue : Type 0 where
  pub keys : KeyState
  pub prompt : Option Prompt
  pub message : Message
  pub last : List ℕ

-- how bytes are read
abbrev pub mode_of : Option Prompt → Mode
mode_of None = modes.Plain
mode_of (Some p) = mode p

-- where nothing was pressed yet: this is said
abbrev pub dialogue : Message → Dialogue
dialogue said = record { keys = fresh modes.Plain; prompt = None; message = said; last = [] }

-- The byte led to the step, behind those since the last whole sequence. Bytes are read as before.
pub record Fed (byte : ℕ) (step : Step) (old new : Dialogue) : Type 0 where
  pub answers : (bytes : List ℕ) → HasBegun old.keys bytes →
      Answers (meaning old.keys.mode (bytes ++ byte ∷ [])) (bytes ++ byte ∷ []) step new.keys
  pub mode : new.keys.mode ≡ old.keys.mode
  pub rest : new ≡ record old { keys = new.keys }

-- the prompt behind a step
abbrev pub prompt_after : prompt_behind.Next → Option Prompt → Option Prompt
prompt_after Same prompt = prompt
prompt_after Closed prompt = None
prompt_after (Open p) prompt = Some p

-- at that prompt, or at none, and the key sequence begun is forgotten
abbrev pub at_prompt : Option Prompt → Dialogue → Dialogue
at_prompt prompt d = record d { keys = fresh (mode_of prompt); prompt = prompt }

-- with the prompt and the message behind a step
abbrev pub shown : prompt_behind.Next → Message → Dialogue → Dialogue
shown next said d = record (at_prompt (prompt_after next d.prompt) d) { message = said }

-- the key sequence begun is forgotten
abbrev pub forgotten : Dialogue → Dialogue
forgotten d = at_prompt d.prompt d

-- the search that is open
abbrev pub search_of : Option Prompt → Option Search
search_of (Some (Searching s)) = Some s
search_of prompt = None

-- an open search with another origin and another match
abbrev pub prompt_with_places : ℕ → Option ℕ → Option Prompt → Option Prompt
prompt_with_places origin found (Some (Searching s)) = Some (Searching (record s { origin = origin; found = found }))
prompt_with_places origin found prompt = prompt

abbrev pub with_places : ℕ → Option ℕ → Dialogue → Dialogue
with_places origin found d = record d { prompt = prompt_with_places origin found d.prompt }

-- what is typed goes into an answer, or into a pattern
abbrev pub takes_text : Option Prompt → Bool
takes_text (Some (Line asked answer)) = true
takes_text (Some (Replacement pattern answer)) = true
takes_text (Some (Searching s)) = true
takes_text prompt = false

-- without the search that is open, if one is
abbrev pub without_search : Dialogue → Dialogue
without_search d = option_map_or (λ s. at_prompt None d) (search_of d.prompt) d

-- the prompt closes, and the pattern of a search is accepted
abbrev pub accepted_search : Dialogue → Dialogue
accepted_search d =
    record (shown Closed message.Nothing d) { last = option_map_or (λ (s : Search). or_last s.pattern d.last) (search_of d.prompt) d.last }
