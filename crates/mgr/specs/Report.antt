-- What the shell is told of a fault.
use Rattle.std.specs.Prelude.{ℕ, List, ◌++◌, Option, None, Some, Result, Ok, Err, codes, slice_get}
use Rattle.std.specs.Fmt.{decimal}
use Rattle.rga_lines.specs.FaultName.{fault_name}
use Rattle.rga_lines.specs.declared.fault.LineFault.{LineFault}
use Rattle.rga_lines.specs.declared.fault.LineFault.TheVariants as line
use Rattle.rga_ops.specs.RefusalName.{refusal_name}
use Rattle.rga_ops.specs.declared.refusal.Refusal.{Refusal}
use Rattle.rga_ops.specs.declared.refusal.Refusal.TheVariants as refusal
use Rattle.rga_exchange.specs.declared.fault.ReceiveFault.{ReceiveFault}
use Rattle.rga_exchange.specs.declared.fault.ReceiveFault.TheVariants as receive
use Rattle.mg_files.specs.declared.fault.LoadFault.{LoadFault}
use Rattle.mg_files.specs.declared.fault.LoadFault.TheVariants as load
use Rattle.mg_workspace.specs.declared.failures.Failure.{Failure}
use Rattle.mg_workspace.specs.declared.failures.Failure.TheVariants as failure
use Rattle.mg_session.specs.declared.fault.SessionFault.{SessionFault}
use Rattle.mg_session.specs.declared.fault.SessionFault.TheVariants as session
use Rattle.mgr_show.specs.Note.{log_name}
use Rattle.mgr_show.specs.declared.fault.JoinFault.{JoinFault}
use Rattle.mgr_show.specs.declared.fault.JoinFault.TheVariants as join
use Rattle.mgr_show.specs.declared.fault.ShowFault.{ShowFault}
use Rattle.mgr_show.specs.declared.fault.ShowFault.TheVariants as show
use Rattle.mgr_show.specs.declared.fault.MissingFault.{MissingFault}
use Rattle.mgr_show.specs.declared.fault.MissingFault.TheVariants as missing
use Rattle.mgr_mend.specs.declared.fault.MergeFault.{MergeFault}
use Rattle.mgr_mend.specs.declared.fault.MergeFault.TheVariants as merge
use Rattle.mgr_mend.specs.declared.merged.Torn.{Torn}
use Rattle.mgr.specs.declared.report.Message.{Message}
use Rattle.mgr.specs.declared.report.Message.TheVariants as message

-- ---- the exit status: 1 where the input is refused, 3 where a device fails, 4 where memory is wanting

abbrev pub line_status : LineFault → ℕ
line_status (line.Memory _) = 4
line_status fault = 1

abbrev pub refusal_status : Refusal → ℕ
refusal_status (refusal.Memory _) = 4
refusal_status refusal = 1

abbrev pub log_status : ReceiveFault → ℕ
log_status (receive.Line number fault) = line_status fault
log_status (receive.Refused number refusal) = refusal_status refusal
log_status receive.Read = 3
log_status (receive.Memory _) = 4
log_status fault = 1

abbrev pub load_status : LoadFault → ℕ
load_status (load.Log fault) = log_status fault
load_status load.NotText = 1
load_status (load.Store refusal) = refusal_status refusal
load_status (load.Memory _) = 4

abbrev pub show_status : ShowFault → ℕ
show_status (show.Line number fault) = line_status fault
show_status (show.Refused number refusal) = refusal_status refusal
show_status (show.Torn number) = 1
show_status (show.Memory _) = 4
show_status fault = 3

abbrev pub failure_status : Failure → ℕ
failure_status failure.Device = 3
failure_status (failure.Line number fault) = line_status fault
failure_status (failure.Refused number refusal) = refusal_status refusal
failure_status failure.Memory = 4

abbrev pub session_status : SessionFault → ℕ
session_status (session.Load fault) = load_status fault
session_status (session.Failed why) = failure_status why
session_status (session.Memory _) = 4
session_status fault = 3

abbrev pub join_status : JoinFault → ℕ
join_status (join.Log index fault) = show_status fault
join_status join.Far = 1
join_status join.Write = 3
join_status (join.Memory _) = 4

abbrev pub missing_status : MissingFault → ℕ
missing_status missing.Head = 1
missing_status (missing.Claims fault) = log_status fault
missing_status (missing.Log fault) = show_status fault
missing_status missing.Write = 3
missing_status (missing.Memory _) = 4

abbrev pub merge_status : MergeFault → ℕ
merge_status (merge.Load fault) = load_status fault
merge_status (merge.Log index fault) = show_status fault
merge_status merge.File = 3
merge_status (merge.Memory _) = 4
merge_status fault = 1

-- that of an answer: 0 where there is no fault
abbrev pub answer_status : {A F : Type 0} → (F → ℕ) → Result A F → ℕ
answer_status status (Ok done) = 0
answer_status status (Err fault) = status fault

-- ---- the line on standard error, without its newline

abbrev pub line_report : ℕ → List ℕ → List ℕ
line_report number name = codes "line " ++ (decimal number ++ (codes ": " ++ name))

abbrev pub line_message : ℕ → LineFault → List ℕ
line_message number (line.Memory _) = codes "out of memory"
line_message number fault = line_report number (fault_name fault)

abbrev pub refused_message : ℕ → Refusal → List ℕ
refused_message number (refusal.Memory _) = codes "out of memory"
refused_message number refusal = line_report number (refusal_name refusal)

abbrev pub log_message : ReceiveFault → List ℕ
log_message (receive.Line number fault) = line_message number fault
log_message (receive.Refused number refusal) = refused_message number refusal
log_message receive.Cut = codes "log: Cut"
log_message receive.Count = codes "log: Count"
log_message receive.Read = codes "device fault"
log_message (receive.Memory _) = codes "out of memory"

abbrev pub store_message : Refusal → List ℕ
store_message (refusal.Memory _) = codes "out of memory"
store_message refusal = codes "text: " ++ refusal_name refusal

abbrev pub load_message : LoadFault → List ℕ
load_message (load.Log fault) = log_message fault
load_message load.NotText = codes "text: not UTF-8"
load_message (load.Store refusal) = store_message refusal
load_message (load.Memory _) = codes "out of memory"

abbrev pub show_message : ShowFault → List ℕ
show_message (show.Line number fault) = line_message number fault
show_message (show.Refused number refusal) = refused_message number refusal
show_message (show.Torn number) = line_report number (codes "Torn")
show_message (show.Memory _) = codes "out of memory"
show_message fault = codes "device fault"

-- of a job that reads one log, whose name stands in front of what is wrong with it: what can't be written, and memory, are
-- of no log
abbrev pub source_message : List ℕ → ShowFault → List ℕ
source_message log show.Write = codes "device fault"
source_message log (show.Memory _) = codes "out of memory"
source_message log fault = log ++ (codes ": " ++ show_message fault)

-- with the name of a log in front, if there is one
abbrev pub named_text : Option (List ℕ) → List ℕ → List ℕ
named_text None text = text
named_text (Some name) text = name ++ (codes ": " ++ text)

-- of one of the logs with these names, or of all together
abbrev pub join_message : List (List ℕ) → JoinFault → List ℕ
join_message names (join.Log index fault) = named_text (slice_get names index) (show_message fault)
join_message names join.Far = codes "counter far above the number of identifiers"
join_message names join.Write = codes "device fault"
join_message names (join.Memory _) = codes "out of memory"

-- of claims, whose name stands in front
abbrev pub claim_message : ℕ → LineFault → List ℕ
claim_message number (line.Memory _) = codes "out of memory"
claim_message number fault = codes "claims: line " ++ (decimal number ++ (codes ": " ++ fault_name fault))

abbrev pub refused_claim_message : ℕ → Refusal → List ℕ
refused_claim_message number (refusal.Memory _) = codes "out of memory"
refused_claim_message number refusal = codes "claims: line " ++ (decimal number ++ (codes ": " ++ refusal_name refusal))

abbrev pub claims_message : ReceiveFault → List ℕ
claims_message (receive.Line number fault) = claim_message number fault
claims_message (receive.Refused number refusal) = refused_claim_message number refusal
claims_message receive.Cut = codes "claims: Cut"
claims_message receive.Count = codes "claims: Count"
claims_message receive.Read = codes "device fault"
claims_message (receive.Memory _) = codes "out of memory"

-- of what the log with this name has and claims lack
abbrev pub missing_message : List ℕ → MissingFault → List ℕ
missing_message log missing.Head = codes "claims: no head"
missing_message log (missing.Claims fault) = claims_message fault
missing_message log (missing.Log fault) = source_message log fault
missing_message log missing.Write = codes "device fault"
missing_message log (missing.Memory _) = codes "out of memory"

-- of the merge of logs with these names into the note with this name, which stands in front where no log's does
abbrev pub merge_message : List ℕ → List (List ℕ) → MergeFault → List ℕ
merge_message name logs merge.NoLog = name ++ (codes ": " ++ codes "text without a log")
merge_message name logs (merge.Load fault) = log_name name ++ (codes ": " ++ load_message fault)
merge_message name logs (merge.Log index fault) = named_text (slice_get logs index) (show_message fault)
merge_message name logs (merge.Apart index) = named_text (slice_get logs index) (codes "a log of another note, which --adopt takes")
merge_message name logs (merge.Far index) = named_text (slice_get logs index) (codes "counter far above the note's")
merge_message name logs (merge.TextStays torn) =
    name ++ (codes ": " ++ codes "the text stays: it is not the log's, but another program's or an older one (remove it, and mgr merge puts it anew)")
merge_message name logs merge.File = codes "device fault"
merge_message name logs (merge.Memory _) = codes "out of memory"

-- of a log with one of these names, whose last line was cut off
abbrev pub torn_message : List (List ℕ) → Torn → List ℕ
torn_message names torn = named_text (slice_get names torn.log) (line_report torn.line (codes "Torn: left out"))

abbrev pub failure_message : Failure → List ℕ
failure_message failure.Device = codes "device fault"
failure_message (failure.Line number fault) = line_message number fault
failure_message (failure.Refused number refusal) = refused_message number refusal
failure_message failure.Memory = codes "out of memory"

abbrev pub session_message : SessionFault → List ℕ
session_message (session.Load fault) = load_message fault
session_message (session.Failed why) = failure_message why
session_message (session.Memory _) = codes "out of memory"
session_message fault = codes "device fault"

-- what a report says
abbrev pub report_text : Message → List ℕ
report_text (message.Line number name) = line_report number name.now
report_text (message.File file name) = file.now ++ (codes ": " ++ name.now)
report_text (message.Claim number name) = codes "claims: line " ++ (decimal number ++ (codes ": " ++ name.now))
report_text (message.Note name) = name.now
report_text message.Device = codes "device fault"
report_text message.Memory = codes "out of memory"
