-- What a step leads to where no prompt is open.
use Rattle.std.specs.Prelude.{ℕ, [], Bool, None, if◌then◌else◌}
use Rattle.mg_plain.specs.declared.command.Command.TheVariants.{ScrollUp, ScrollDown}
use Rattle.mg_plain.specs.declared.steps.Direction.{Direction}
use Rattle.mg_plain.specs.declared.steps.Direction.TheVariants.{Forward, Backward}
use Rattle.mg_keys.specs.declared.step.Question.TheVariants as question
use Rattle.mg_keys.specs.declared.step.Step.{Step}
use Rattle.mg_keys.specs.declared.step.Step.TheVariants.{Pending, Run, Ask, Edge, Cancel}
use Rattle.mg_keys.specs.declared.step.WindowCommand.TheVariants as window
use Rattle.mg_minibuffer.specs.declared.ending.Arrangement.TheVariants as arrangement
use Rattle.mg_minibuffer.specs.declared.ending.Action.{Action}
use Rattle.mg_minibuffer.specs.declared.ending.Action.TheVariants as action
use Rattle.mg_minibuffer.specs.declared.ending.Ending.{Ending}
use Rattle.mg_minibuffer.specs.declared.ending.Next.TheVariants.{Same, Open}
use Rattle.mg_minibuffer.specs.declared.ending.Request.{Request}
use Rattle.mg_minibuffer.specs.declared.ending.Request.TheVariants as request
use Rattle.mg_minibuffer.specs.declared.message.Message.TheVariants as message
use Rattle.mg_minibuffer.specs.declared.prompt.Asked.TheVariants.{Command, Pattern, Find, Switch, Kill}
use Rattle.mg_minibuffer.specs.declared.prompt.Prompt.{Prompt}
use Rattle.mg_minibuffer.specs.declared.prompt.Prompt.TheVariants.{Line, Searching, Quitting}
use Rattle.mg_minibuffer.specs.Endings.{ending_of, requesting}
use Rattle.mg_minibuffer.specs.Scenes.{Scene}

-- an action, with the prompt as it is and no message
abbrev pub does : Action → Ending
does action = ending_of action Same message.Nothing

-- a prompt that opens, with no message
abbrev pub opens : Action → Prompt → Ending
opens action prompt = ending_of action (Open prompt) message.Nothing

-- a request, behind the end of a run of commands
abbrev pub asks_for : Request → Ending
asks_for request = requesting request (does action.EndRun)

abbrev pub undefined : Ending
undefined = ending_of action.EndRun Same message.UndefinedKey

-- a search that begins
abbrev pub begun : ℕ → Direction → Prompt
begun origin direction = Searching (record { origin = origin; direction = direction; pattern = []; found = None })

-- quitting is asked for first where a buffer is changed
abbrev pub quits : Bool → Ending
quits changed = if changed then opens action.EndRun Quitting else asks_for request.Quit

abbrev pub plain_step : Step → Scene → Ending
plain_step (Run command n) scene = does (action.Run command n)
plain_step (Ask question.Find) scene = opens action.EndRun (Line Find [])
plain_step (Ask question.Switch) scene = opens action.EndRun (Line Switch [])
plain_step (Ask question.Kill) scene = opens action.EndRun (Line Kill [])
plain_step (Ask question.Extended) scene = opens action.Nothing (Line Command [])
plain_step (Ask question.Replace) scene = opens action.Nothing (Line Pattern [])
plain_step (Ask question.Forward) scene = opens action.Nothing (begun scene.point Forward)
plain_step (Ask question.Backward) scene = opens action.Nothing (begun scene.point Backward)
plain_step (Ask question.Save) scene = asks_for request.Save
plain_step (Ask question.Undo) scene = does action.Undo
plain_step (Ask question.Quit) scene = quits scene.changed
plain_step (Edge window.ScrollUp) scene = does (action.Run (ScrollUp scene.rows) 1)
plain_step (Edge window.ScrollDown) scene = does (action.Run (ScrollDown scene.rows) 1)
plain_step (Edge window.Split) scene = does (action.Arrange arrangement.Split)
plain_step (Edge window.Remove) scene = does (action.Arrange arrangement.Remove)
plain_step (Edge window.Only) scene = does (action.Arrange arrangement.Only)
plain_step (Edge window.Other) scene = does (action.Arrange arrangement.Other)
plain_step (Edge window.Recenter) scene = does (action.Arrange arrangement.Recenter)
-- a byte that left a search and waits for more
plain_step Pending scene = does action.Nothing
plain_step Cancel scene = ending_of action.EndRun Same message.Quit
plain_step _ scene = undefined
