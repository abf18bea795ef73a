-- What a step leads to while a pattern is searched as it is typed.
use Rattle.std.specs.Prelude.{ℕ, ◌+◌, ◌-◌, ◌^◌, List, [], ◌∷◌, ◌++◌, length, Option, Some, None, nat_eq, nat_lt, if◌then◌else◌}
use Rattle.std.specs.Option.{option_and_then, option_map}
use Rattle.mg_plain.specs.Matches.{found_match}
use Rattle.mg_plain.specs.declared.command.Command.{Command}
use Rattle.mg_plain.specs.declared.command.Command.TheVariants.{SearchForward, SearchBackward}
use Rattle.mg_plain.specs.declared.outcome.Notice.TheVariants.{SearchFailed}
use Rattle.mg_plain.specs.declared.steps.Direction.{Direction}
use Rattle.mg_plain.specs.declared.steps.Direction.TheVariants.{Forward, Backward}
use Rattle.mg_keys.specs.declared.step.Step.{Step}
use Rattle.mg_keys.specs.declared.step.Step.TheVariants as step
use Rattle.mg_minibuffer.specs.declared.ending.Next as prompt_behind
use Rattle.mg_minibuffer.specs.declared.ending.Next.TheVariants.{Same, Closed, Open}
use Rattle.mg_minibuffer.specs.declared.ending.Reaction.{Reaction}
use Rattle.mg_minibuffer.specs.declared.ending.Reaction.TheVariants.{Accepts}
use Rattle.mg_minibuffer.specs.declared.message.Message.{Message}
use Rattle.mg_minibuffer.specs.declared.message.Message.TheVariants as message
use Rattle.mg_minibuffer.specs.declared.prompt.Prompt.TheVariants.{Searching}
use Rattle.mg_minibuffer.specs.declared.prompt.Search.{Search}
use Rattle.mg_minibuffer.specs.Endings.{shows, runs, unbound}
use Rattle.mg_minibuffer.specs.Typing.{longest_answer, rubbed}

-- the place before one, and the place behind it
abbrev pub place_one_back : ℕ → Option ℕ
place_one_back i = if nat_eq i 0 then None else Some (i - 1)

abbrev pub place_one_on : ℕ → Option ℕ
place_one_on i = if nat_lt (i + 1) (2 ^ 64) then Some (i + 1) else None

-- where a search without a match begins: at its origin, or backward just before it
abbrev pub start_from : Direction → ℕ → Option ℕ
start_from Forward origin = Some origin
start_from Backward origin = place_one_back origin

abbrev pub from_origin : Search → Option ℕ
from_origin s = start_from s.direction s.origin

-- where the search for a longer pattern begins: at the match, if there is one
abbrev pub from_match : Search → Option ℕ
from_match s = elim s.found [ Some i ↦ Some i | None ↦ from_origin s ]

abbrev pub past : Direction → ℕ → Option ℕ
past Forward i = place_one_on i
past Backward i = place_one_back i

-- where the search for the next match begins: past the match, if there is one; nowhere without a pattern
abbrev pub past_match : Search → Option ℕ
past_match s =
    if nat_eq (length s.pattern) 0
    then None
    else elim s.found [ Some i ↦ past s.direction i | None ↦ from_origin s ]

abbrev pub command_of : Direction → List ℕ → ℕ → Command
command_of Forward pattern start = SearchForward pattern start
command_of Backward pattern start = SearchBackward pattern start

abbrev pub command : Search → ℕ → Command
command s start = command_of s.direction s.pattern start

abbrev pub with_match : Search → ℕ → Search
with_match s i = record s { found = Some i }

abbrev pub with_pattern : Search → List ℕ → Search
with_pattern s pattern = record s { pattern = pattern }

-- point goes to a match that is found from the start on
abbrev pub goes_to : Search → ℕ → ℕ → Reaction
goes_to s start i = runs (command s start) (Open (Searching (with_match s i))) message.Nothing

-- the match that is found from a place, if there is one, behind that place
abbrev pub sought : List ℕ → Search → Option ℕ → Option (ℕ × ℕ)
sought text s start =
    option_and_then (λ i. option_map (λ m. (i, m)) (found_match s.direction s.pattern text i)) start

-- point goes to that match; where there is none, another reaction
abbrev pub seek : List ℕ → Search → Option ℕ → Reaction → Reaction
seek text s start otherwise = elim (sought text s start) [
  | Some (i, m) ↦ goes_to s i m
  | None ↦ otherwise
]

abbrev pub failed : prompt_behind.Next → Reaction
failed next = shows next (message.Refused SearchFailed)

-- a character more; where there is no match then it is not added, and one past the greatest length changes nothing
abbrev pub lengthened : Search → ℕ → List ℕ → Reaction
lengthened s c text =
    if nat_lt (length s.pattern) longest_answer
    then seek text (with_pattern s (s.pattern ++ c ∷ [])) (from_match s) (failed Same)
    else shows Same message.Nothing

-- the pattern, or the one that was accepted last where it is empty
abbrev pub or_last : List ℕ → List ℕ → List ℕ
or_last pattern last = if nat_eq (length pattern) 0 then last else pattern

abbrev pub turned_search : Search → Direction → List ℕ → Search
turned_search s direction last = record s { direction = direction; pattern = or_last s.pattern last }

-- on to the next match; direction and pattern stay also where there is none
abbrev pub goes_on : Search → List ℕ → Reaction
goes_on s text = seek text s (past_match s) (failed (Open (Searching s)))

-- point goes back to where the search began
abbrev pub returns : ℕ → prompt_behind.Next → Message → Reaction
returns origin next message = runs (SearchForward [] origin) next message

abbrev pub shorter : Search → Search
shorter s = record s { pattern = rubbed s.pattern; found = None }

-- where a search that begins anew looks first: nowhere without a pattern
abbrev pub first_start : Search → Option ℕ
first_start s = if nat_eq (length s.pattern) 0 then None else Some s.origin

-- from the origin on, in both directions; where there is no match point goes there
abbrev pub anew : Search → List ℕ → Reaction
anew s text = seek text s (first_start s) (returns s.origin (Open (Searching s)) message.Nothing)

abbrev pub search_step : Search → Step → List ℕ → List ℕ → Reaction
search_step s (step.Text c) text last = lengthened s c text
search_step s step.Rub text last = anew (shorter s) text
search_step s step.Next text last = goes_on (turned_search s Forward last) text
search_step s step.Prev text last = goes_on (turned_search s Backward last) text
search_step s step.Accept text last = Accepts
search_step s step.Cancel text last = returns s.origin Closed message.Quit
search_step s _ text last = unbound
