-- Why a save or an exchange failed, as it stands then.
use Rattle.std.specs.Prelude.{Option, Some, None, Result, Ok, Err}
use Rattle.rga_exchange.specs.declared.fault.ReceiveFault.{ReceiveFault}
use Rattle.rga_exchange.specs.declared.fault.ReceiveFault.TheVariants as receive
use Rattle.rga_exchange.specs.declared.fault.SendFault.TheVariants as send
use Rattle.mg_files.specs.declared.port.LinkFault.TheVariants as link
use Rattle.mg_files.specs.declared.port.PortFault.{PortFault}
use Rattle.mg_files.specs.declared.port.PortFault.TheVariants as port
use Rattle.mg_files.specs.declared.fault.ExchangeFault.{ExchangeFault}
use Rattle.mg_files.specs.declared.fault.ExchangeFault.TheVariants as exchange
use Rattle.mg_workspace.specs.declared.failures.Failure.{Failure}
use Rattle.mg_workspace.specs.declared.failures.Failure.TheVariants.{Device, Line, Refused, Memory}
use Rattle.mg_editor.specs.declared.fault.CarryFault.{CarryFault}
use Rattle.mg_editor.specs.declared.fault.CarryFault.TheVariants.{Port, Exchange}

abbrev pub port_failure : PortFault → Failure
port_failure port.File = Device
port_failure (port.Memory _) = Memory

-- a peer that ended early, or named another number of operations, failed as its device would
abbrev pub peer_failure : ReceiveFault → Failure
peer_failure (receive.Line line fault) = Line line fault
peer_failure (receive.Refused line refusal) = Refused line refusal
peer_failure (receive.Memory _) = Memory
peer_failure fault = Device

-- with nowhere to meet a peer there is no device
abbrev pub exchange_failure : ExchangeFault → Failure
exchange_failure (exchange.Save fault) = port_failure fault
exchange_failure (exchange.Link (link.Memory _)) = Memory
exchange_failure (exchange.Send (send.Memory _)) = Memory
exchange_failure (exchange.Receive fault) = peer_failure fault
exchange_failure fault = Device

-- why a save or an exchange failed; a buffer that is not opened is none of these
abbrev pub outcome_failure : {A : Type 0} → Result A CarryFault → Option Failure
outcome_failure (Err (Port fault)) = Some (port_failure fault)
outcome_failure (Err (Exchange fault)) = Some (exchange_failure fault)
outcome_failure outcome = None
