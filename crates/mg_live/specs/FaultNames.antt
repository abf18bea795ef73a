-- The names of the faults of reports.
use Rattle.std.specs.Prelude.{ℕ, List, codes}
use Rattle.rga_ops.specs.RefusalName.{refusal_name}
use Rattle.rga_ops.specs.declared.refusal.Refusal.TheVariants as refusal
use Rattle.rga_lines.specs.FaultName.{fault_name}
use Rattle.rga_lines.specs.Memory.{LineMemory}
use Rattle.mg_workspace.specs.declared.fault.ActionFault.{ActionFault}
use Rattle.mg_workspace.specs.declared.fault.ActionFault.TheVariants as action
use Rattle.mg_workspace.specs.declared.fault.Cause.TheVariants as cause
use Rattle.mg_editor.specs.declared.pasting.PasteFault.{PasteFault}
use Rattle.mg_editor.specs.declared.pasting.PasteFault.TheVariants as paste
use Rattle.mg_live.specs.declared.fault.ReportFault.{ReportFault}
use Rattle.mg_live.specs.declared.fault.ReportFault.TheVariants.{Line, Cut, Refused, Far, Closed, Busy, Stale, Range}

abbrev pub report_fault_name : ReportFault → List ℕ
report_fault_name (Line fault) = fault_name fault
report_fault_name Cut = codes "Cut"
report_fault_name (Refused refusal) = refusal_name refusal
report_fault_name Far = codes "Far"
report_fault_name Closed = codes "Closed"
report_fault_name Busy = codes "Busy"
report_fault_name Stale = codes "Stale"
report_fault_name Range = codes "Range"

-- of what the buffer says of pasted text, or of a splice
abbrev pub of_action : ActionFault → ReportFault
of_action (action.Memory _) = Line LineMemory
of_action (action.Refused cause.BufferFull) = Refused refusal.Full
of_action (action.Refused cause.IdentifiersUsedUp) = Refused refusal.Clock
of_action (action.Refused _) = Range

-- of text that is pasted
abbrev pub of_paste : PasteFault → ReportFault
of_paste paste.Busy = Busy
of_paste (paste.Action fault) = of_action fault
