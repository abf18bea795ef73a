-- What steps lead to.
use Rattle.mg_plain.specs.declared.command.Command.{Command}
use Rattle.mg_minibuffer.specs.declared.ending.Action.{Action}
use Rattle.mg_minibuffer.specs.declared.ending.Action.TheVariants as action
use Rattle.mg_minibuffer.specs.declared.ending.Ending.{Ending}
use Rattle.mg_minibuffer.specs.declared.ending.Next as prompt_behind
use Rattle.mg_minibuffer.specs.declared.ending.Next.TheVariants.{Same, Closed, Open}
use Rattle.mg_minibuffer.specs.declared.ending.Reaction.{Reaction}
use Rattle.mg_minibuffer.specs.declared.ending.Reaction.TheVariants.{Ends}
use Rattle.mg_minibuffer.specs.declared.ending.Request.{Request}
use Rattle.mg_minibuffer.specs.declared.ending.Request.TheVariants.{Idle}
use Rattle.mg_minibuffer.specs.declared.message.Message.{Message}
use Rattle.mg_minibuffer.specs.declared.message.Message.TheVariants as message

-- one that requests nothing; where its action is refused the prompt stays
abbrev pub ending_of : Action → prompt_behind.Next → Message → Ending
ending_of action next message = record { action = action; next = next; message = message; request = Idle; refused = Same }

-- the same with a request
abbrev pub requesting : Request → Ending → Ending
requesting request e = record e { request = request }

-- nothing is done
abbrev pub shows : prompt_behind.Next → Message → Reaction
shows next message = Ends (ending_of action.Nothing next message)

-- a run of commands ends
abbrev pub idles : prompt_behind.Next → Message → Reaction
idles next message = Ends (ending_of action.EndRun next message)

-- a command is run, with the argument 1
abbrev pub runs : Command → prompt_behind.Next → Message → Reaction
runs command next message = Ends (ending_of (action.Run command 1) next message)

-- a key that means nothing at the open prompt, which stays
abbrev pub unbound : Reaction
unbound = idles Same message.UndefinedKey

abbrev pub or_closed : prompt_behind.Next → prompt_behind.Next
or_closed (Open prompt) = Open prompt
or_closed next = Closed

-- an ending behind which the prompt that was open is closed, whatever comes of it
abbrev pub closing : Ending → Ending
closing e = record e { next = or_closed e.next; refused = Closed }
