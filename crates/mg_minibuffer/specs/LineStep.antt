-- What a step leads to while a line of text is asked for, or whether to quit.
use Rattle.std.specs.Prelude.{ℕ, List, [], length, Some, None, nat_eq, if◌then◌else◌}
use Rattle.mg_keys.specs.Commands.{step_of}
use Rattle.mg_keys.specs.Names.{command_named}
use Rattle.mg_keys.specs.declared.names.NamedCommand.{NamedCommand}
use Rattle.mg_keys.specs.declared.names.NamedCommand.TheVariants.{Key, ReplicaExchange, ReplicaServe}
use Rattle.mg_keys.specs.declared.step.Step.{Step}
use Rattle.mg_keys.specs.declared.step.Step.TheVariants.{Text, Rub, Accept, Cancel, Unbound}
use Rattle.mg_minibuffer.specs.declared.ending.Action.{Action}
use Rattle.mg_minibuffer.specs.declared.ending.Action.TheVariants as action
use Rattle.mg_minibuffer.specs.declared.ending.Ending.{Ending}
use Rattle.mg_minibuffer.specs.declared.ending.Next.TheVariants.{Closed, Open}
use Rattle.mg_minibuffer.specs.declared.ending.Reaction.{Reaction}
use Rattle.mg_minibuffer.specs.declared.ending.Reaction.TheVariants.{Ends}
use Rattle.mg_minibuffer.specs.declared.ending.Request.{Request}
use Rattle.mg_minibuffer.specs.declared.ending.Request.TheVariants as request
use Rattle.mg_minibuffer.specs.declared.message.Message.TheVariants as message
use Rattle.mg_minibuffer.specs.declared.prompt.Asked.{Asked}
use Rattle.mg_minibuffer.specs.declared.prompt.Asked.TheVariants.{Command, Pattern, Find, Switch, Kill}
use Rattle.mg_minibuffer.specs.declared.prompt.Prompt.TheVariants.{Line}
use Rattle.mg_minibuffer.specs.Endings.{ending_of, requesting, shows, idles, unbound, closing}
use Rattle.mg_minibuffer.specs.PlainStep.{plain_step, does, asks_for}
use Rattle.mg_minibuffer.specs.ReplacementStep.{asks_replacement}
use Rattle.mg_minibuffer.specs.Scenes.{Scene}
use Rattle.mg_minibuffer.specs.Typing.{typed, rubbed}

abbrev pub asks_on : Asked → List ℕ → Reaction
asks_on asked answer = shows (Open (Line asked answer)) message.Nothing

-- a command that was named does what its key does with the argument 1; no key is bound to those of replicas
abbrev pub named_step : NamedCommand → Scene → Ending
named_step (Key command) scene = plain_step (step_of command 1) scene
named_step ReplicaExchange scene = asks_for request.Exchange
named_step ReplicaServe scene = asks_for request.Serve

abbrev pub extended : List ℕ → Scene → Reaction
extended answer scene = elim (command_named answer) [
  | Some command ↦ Ends (closing (named_step command scene))
  | None ↦ shows Closed message.NoSuchCommand
]

-- the prompt closes, and that is requested
abbrev pub requests : Request → Reaction
requests request = Ends (requesting request (ending_of action.Nothing Closed message.Nothing))

-- the buffer of that name is asked for; without a name there is none
abbrev pub finds : List ℕ → Reaction
finds name = if nat_eq (length name) 0 then shows Closed message.Nothing else requests (request.Find name)

-- the prompt closes, whatever comes of the action
abbrev pub closes : Action → Reaction
closes action = Ends (closing (does action))

abbrev pub accepted : Asked → List ℕ → Scene → Reaction
accepted Command answer scene = extended answer scene
accepted Pattern answer scene = asks_replacement answer []
accepted Find answer scene = finds answer
accepted Switch answer scene = closes (action.Switch answer)
accepted Kill answer scene = closes (action.Kill answer)

abbrev pub line_prompt_step : Asked → List ℕ → Step → Scene → Reaction
line_prompt_step asked answer (Text c) scene = asks_on asked (typed answer c)
line_prompt_step asked answer Rub scene = asks_on asked (rubbed answer)
line_prompt_step asked answer Accept scene = accepted asked answer scene
line_prompt_step asked answer Cancel scene = idles Closed message.Quit
line_prompt_step asked answer _ scene = unbound

-- `y` quits, and any other step ends the question
abbrev pub quit_step : Step → Reaction
quit_step (Text c) = if nat_eq c 121 then requests request.Quit else shows Closed message.Nothing
quit_step Cancel = idles Closed message.Quit
quit_step Unbound = idles Closed message.UndefinedKey
quit_step _ = shows Closed message.Nothing
