-- What is told of an action that is refused and of a request, and what is answered to this.
use Rattle.std.specs.Prelude.{◌≡◌, Result, Ok, Err}
use Rattle.rga_exchange.specs.declared.fault.ReceiveFault.{ReceiveFault}
use Rattle.rga_exchange.specs.declared.fault.ReceiveFault.TheVariants as receive
use Rattle.rga_exchange.specs.declared.fault.SendFault.TheVariants as send
use Rattle.mg_plain.specs.Memory.{NoticeMemory}
use Rattle.mg_buffer.specs.OpenState.{OpenState}
use Rattle.mg_files.specs.declared.fault.LoadFault.{LoadFault}
use Rattle.mg_files.specs.declared.fault.LoadFault.TheVariants as load
use Rattle.mg_files.specs.declared.port.LinkFault.TheVariants as link
use Rattle.mg_files.specs.declared.port.PortFault.{PortFault}
use Rattle.mg_files.specs.declared.port.PortFault.TheVariants as port
use Rattle.mg_files.specs.declared.fault.ExchangeFault.{ExchangeFault}
use Rattle.mg_files.specs.declared.fault.ExchangeFault.TheVariants as exchange
use Rattle.mg_minibuffer.specs.declared.message.Message.{Message}
use Rattle.mg_minibuffer.specs.declared.message.Message.TheVariants as message
use Rattle.mg_workspace.specs.declared.fault.Cause.{Cause}
use Rattle.mg_workspace.specs.declared.fault.Cause.TheVariants as cause
use Rattle.mg_workspace.specs.Workspaces.{Workspace, workspace_buffer, with_workspace_buffer, with_task}
use Rattle.mg_workspace.specs.declared.failures.Task.{Task}
use Rattle.mg_editor.specs.Editors.{Editor}
use Rattle.mg_editor.specs.Failing.{outcome_failure}
use Rattle.mg_editor.specs.declared.fault.CarryFault.{CarryFault}
use Rattle.mg_editor.specs.declared.fault.CarryFault.TheVariants.{Port, Load, Exchange}

abbrev pub CarryAnswer : Type 0
CarryAnswer = Result (Unit {0}) CarryFault

-- what a request's port did wrong, as an exchange says it: files that were found, and are not loaded, are no fault of it
abbrev pub port_outcome : {A : Type 0} → Result A CarryFault → Result (Unit {0}) ExchangeFault
port_outcome (Err (Port fault)) = Err (exchange.Save fault)
port_outcome (Err (Exchange fault)) = Err fault
port_outcome outcome = Ok tt

-- ---- what is said of faults

-- of an action that is refused
abbrev pub message_of_cause : Cause → Message
message_of_cause (cause.Notice notice) = message.Refused notice
message_of_cause cause.BufferFull = message.BufferFull
message_of_cause cause.IdentifiersUsedUp = message.IdentifiersUsedUp
message_of_cause cause.WindowTooSmall = message.WindowTooSmall
message_of_cause cause.OnlyOneWindow = message.OnlyOneWindow
message_of_cause cause.NoSuchBuffer = message.NoSuchBuffer
message_of_cause cause.BufferIsChanged = message.BufferIsChanged
message_of_cause cause.OnlyOneBuffer = message.OnlyOneBuffer

-- of a port that is asked for files
abbrev pub message_of_port : PortFault → Message
message_of_port port.File = message.FileFault
message_of_port (port.Memory _) = message.Refused NoticeMemory

-- of a log; only a line, or what it says, can be at fault
abbrev pub message_of_log : ReceiveFault → Message
message_of_log (receive.Line line fault) = message.BadLine line fault
message_of_log (receive.Refused line refusal) = message.RefusedLine line refusal
message_of_log _ = message.FileFault

-- of a buffer that is not loaded; of a text only that it is too long can be refused
abbrev pub message_of_load : LoadFault → Message
message_of_load (load.Log fault) = message_of_log fault
message_of_load load.NotText = message.NotText
message_of_load (load.Store refusal) = message.BufferFull
message_of_load (load.Memory _) = message.Refused NoticeMemory

-- of a peer that was not heard to its end
abbrev pub message_of_peer : ReceiveFault → Message
message_of_peer (receive.Line line fault) = message.BadLine line fault
message_of_peer (receive.Refused line refusal) = message.RefusedLine line refusal
message_of_peer receive.Cut = message.Cut
message_of_peer receive.Count = message.WrongCount
message_of_peer receive.Read = message.SocketFault
message_of_peer (receive.Memory _) = message.Refused NoticeMemory

abbrev pub message_of_exchange : ExchangeFault → Message
message_of_exchange (exchange.Save fault) = message_of_port fault
message_of_exchange (exchange.Link link.NoPort) = message.NoPort
message_of_exchange (exchange.Link (link.Memory _)) = message.Refused NoticeMemory
message_of_exchange (exchange.Send (send.Memory _)) = message.Refused NoticeMemory
message_of_exchange (exchange.Receive fault) = message_of_peer fault
message_of_exchange fault = message.SocketFault

abbrev pub message_of_fault : CarryFault → Message
message_of_fault (Port fault) = message_of_port fault
message_of_fault (Load fault) = message_of_load fault
message_of_fault (Exchange fault) = message_of_exchange fault

-- ---- what is told

-- what came of a request: what is said of it, or its fault
abbrev pub CarryOutcome : Type 0
CarryOutcome = Result Message CarryFault

abbrev pub outcome_message : CarryOutcome → Message
outcome_message (Ok said) = said
outcome_message (Err fault) = message_of_fault fault

abbrev pub outcome_answer : CarryOutcome → CarryAnswer
outcome_answer (Ok said) = Ok tt
outcome_answer (Err fault) = Err fault

-- the editor that says something, and has this workspace
abbrev pub editor_saying : Workspace → Message → Editor → Editor
editor_saying work said e = record { work = work; talk = record e.talk { message = said } }

-- The workspace changed in a way that is said of what came of a request, and that is told and answered.
pub record TellsOutcome {A : Type 0} (R : A → Workspace → Workspace → Type 0) (outcome : A → CarryOutcome) (old new : Editor) (r : CarryAnswer) : Type 0 where
  pub came : A
  pub became : R came old.work new.work
  pub is : new ≡ editor_saying new.work (outcome_message (outcome came)) old
  pub done : r ≡ outcome_answer (outcome came)

-- the same of a task of the current buffer, with what is to be written of it: beside it, and that it was done or failed, nothing
-- changed
abbrev pub ChangesCurrent : {A : Type 0} → Task → (A → OpenState → OpenState → Type 0) → (A → CarryOutcome) → Editor → Editor → CarryAnswer → Type 0
ChangesCurrent task R outcome old new r =
    TellsOutcome
    (λ came w v.
    (after : OpenState) × (v ≡ with_task task (outcome_failure (outcome came)) (with_workspace_buffer w after)) × R came (workspace_buffer w) after)
    outcome old new r
