-- What it leads to that the current buffer meets a peer.
use Rattle.std.specs.Prelude.{Option, Some, None, Result, Ok, Err}
use Rattle.mg_files.specs.Asking.{Role, Connects, Waits}
use Rattle.mg_files.specs.declared.fault.ExchangeFault.{ExchangeFault}
use Rattle.mg_files.specs.declared.talking.Exchanged as talking
use Rattle.mg_minibuffer.specs.declared.ending.Request.{Request}
use Rattle.mg_minibuffer.specs.declared.ending.Request.TheVariants as request
use Rattle.mg_minibuffer.specs.declared.message.Message.TheVariants as message
use Rattle.mg_editor.specs.Telling.{CarryOutcome}
use Rattle.mg_editor.specs.declared.fault.CarryFault.TheVariants.{Exchange}

-- as what the buffer meets a peer, where it is asked to
abbrev pub role_of : Request → Option Role
role_of request.Exchange = Some Connects
role_of request.Serve = Some Waits
role_of _ = None

-- what came of it
abbrev pub meeting_outcome : Result talking.Exchanged ExchangeFault → CarryOutcome
meeting_outcome (Ok e) = Ok (message.Exchanged e.sent e.received)
meeting_outcome (Err fault) = Err (Exchange fault)
