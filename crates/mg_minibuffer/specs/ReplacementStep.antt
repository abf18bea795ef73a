-- What a step leads to in query-replace: what to replace a pattern by, and which of its matches.
use Rattle.std.specs.Prelude.{ℕ, ◌+◌, ◌-◌, ◌^◌, List, length, min, Some, None, nat_eq, if◌then◌else◌}
use Rattle.mg_plain.specs.Matches.{found_match, match_count}
use Rattle.mg_plain.specs.declared.command.Command.TheVariants.{SearchForward, ReplaceAll}
use Rattle.mg_plain.specs.declared.outcome.Notice.TheVariants.{SearchFailed}
use Rattle.mg_plain.specs.declared.steps.Direction.TheVariants.{Forward}
use Rattle.mg_keys.specs.declared.step.Answer.TheVariants as answers
use Rattle.mg_keys.specs.declared.step.Step.{Step}
use Rattle.mg_keys.specs.declared.step.Step.TheVariants.{Text, Rub, Accept, Cancel, Answer}
use Rattle.mg_minibuffer.specs.declared.ending.Action.TheVariants as action
use Rattle.mg_minibuffer.specs.declared.ending.Ending.{Ending}
use Rattle.mg_minibuffer.specs.declared.ending.Next.TheVariants.{Closed, Open}
use Rattle.mg_minibuffer.specs.declared.ending.Reaction.{Reaction}
use Rattle.mg_minibuffer.specs.declared.ending.Reaction.TheVariants.{Ends, Replaces}
use Rattle.mg_minibuffer.specs.declared.message.Message.{Message}
use Rattle.mg_minibuffer.specs.declared.message.Message.TheVariants as message
use Rattle.mg_minibuffer.specs.declared.prompt.Prompt.TheVariants.{Replacement, Replacing}
use Rattle.mg_minibuffer.specs.Endings.{ending_of, shows, idles, runs, unbound}
use Rattle.mg_minibuffer.specs.Scenes.{Scene}
use Rattle.mg_minibuffer.specs.Typing.{typed, rubbed}

-- counts end at the greatest number of 64 bits
abbrev pub sum : ℕ → ℕ → ℕ
sum count more = min (count + more) (2 ^ 64 - 1)

-- point goes to the first match from point on, and it is asked about; where there is none, query-replace ends
abbrev pub asks_or_ends : List ℕ → List ℕ → ℕ → Scene → Message → Ending
asks_or_ends pattern put count scene otherwise = elim (found_match Forward pattern scene.text scene.point) [
  | Some i ↦ ending_of (action.Run (SearchForward pattern scene.point) 1) (Open (Replacing pattern put count)) message.Nothing
  | None ↦ ending_of action.Nothing Closed otherwise
]

abbrev pub asks_at_next_match : List ℕ → List ℕ → ℕ → Scene → Ending
asks_at_next_match pattern put count scene = asks_or_ends pattern put count scene (message.Replaced count)

-- an empty pattern has no match
abbrev pub asks_at_first_match : List ℕ → List ℕ → Scene → Reaction
asks_at_first_match pattern put scene =
    let failed = message.Refused SearchFailed in
    if nat_eq (length pattern) 0 then shows Closed failed else Ends (asks_or_ends pattern put 0 scene failed)

abbrev pub asks_replacement : List ℕ → List ℕ → Reaction
asks_replacement pattern answer = shows (Open (Replacement pattern answer)) message.Nothing

abbrev pub replacement_step : List ℕ → List ℕ → Step → Scene → Reaction
replacement_step pattern answer (Text c) scene = asks_replacement pattern (typed answer c)
replacement_step pattern answer Rub scene = asks_replacement pattern (rubbed answer)
replacement_step pattern answer Accept scene = asks_at_first_match pattern answer scene
replacement_step pattern answer Cancel scene = idles Closed message.Quit
replacement_step pattern answer _ scene = unbound

-- the match at point and those that follow it, each found from the end of the one before
abbrev pub replaces_all : List ℕ → List ℕ → ℕ → Scene → Reaction
replaces_all pattern put count scene =
    runs (ReplaceAll pattern put) Closed (message.Replaced (sum (sum count 1) (match_count pattern scene.text scene.point)))

abbrev pub replacing_step : List ℕ → List ℕ → ℕ → Step → Scene → Reaction
replacing_step pattern put count (Answer answers.Yes) scene = Replaces pattern put count
replacing_step pattern put count (Answer answers.No) scene = Ends (asks_at_next_match pattern put count scene)
replacing_step pattern put count (Answer answers.All) scene = replaces_all pattern put count scene
replacing_step pattern put count (Answer answers.Quit) scene = shows Closed (message.Replaced count)
replacing_step pattern put count Cancel scene = idles Closed message.Quit
replacing_step pattern put count _ scene = unbound
