-- What a merge of logs into a note does.
use Rattle.std.specs.Prelude.{◌≡◌, ◌≢◌, ◌⊎◌, ◌||◌, ℕ, Bool, false, List, [], ◌∷◌, ◌++◌, length, is_some, Option, Some, None, Result, Ok, Err, ⊤, if◌then◌else◌}
use Rattle.std.specs.List.{list_any}
use Rattle.std.specs.Str.{bytes_eq}
use Rattle.rga_exchange.specs.Counting.{one_more}
use Rattle.rga_ops.specs.Content.{Content, clock_of}
use Rattle.rga_exchange.specs.declared.log.LogEnd.{LogEnd}
use Rattle.mg_buffer.specs.OpenState.{OpenState, has_unsaved}
use Rattle.mg_files.specs.declared.port.CallKind.TheVariants.{PutText}
use Rattle.mg_files.specs.Calls.{Call, Adds, call, found_call, load_told, refusals}
use Rattle.mg_files.specs.Files.{Files, text_bytes}
use Rattle.mg_files.specs.Loading.{load_outcome}
use Rattle.mg_files.specs.Saving.{SaveStep, failed_calls, save_calls}
use Rattle.mg_files.specs.declared.fault.LoadFault.{LoadFault}
use Rattle.mg_files.specs.declared.fault.LoadFault.TheVariants as load
use Rattle.mg_files.specs.declared.port.PortFault.{PortFault}
use Rattle.mg_files.specs.declared.port.PortFault.TheVariants as port
use Rattle.mgr_show.specs.Log.{ShowOutcome}
use Rattle.mgr_show.specs.Note.{note_of}
use Rattle.mgr_show.specs.Shown.{IsOfInput}
use Rattle.mgr_show.specs.Sources.{failures_after}
use Rattle.mgr_show.specs.declared.fault.ShowFault.{ShowFault}
use Rattle.mgr_show.specs.declared.fault.ShowFault.TheVariants as show
use Rattle.mgr_mend.specs.Beside.{Beside}
use Rattle.mgr_mend.specs.Taking.{HasTaken, LogsTaken, logs_taken, merged_from}
use Rattle.mgr_mend.specs.declared.text.Owner.{Owner}
use Rattle.mgr_mend.specs.declared.text.Owner.TheVariants.{Note, AnyLog, Other}
use Rattle.mgr_mend.specs.declared.merged.Torn.{Torn}
use Rattle.mgr_mend.specs.declared.fault.MergeFault.{MergeFault}
use Rattle.mgr_mend.specs.declared.fault.MergeFault.TheVariants.{NoLog, Load, Log, Apart, Far, TextStays, File, Memory as OfMemory}
use Rattle.mgr_mend.specs.Memory.{MergeMemory as Memory}

-- ---- faults

abbrev pub port_fault : PortFault → MergeFault
port_fault port.File = File
port_fault (port.Memory _) = Memory

abbrev pub load_fault : LoadFault → MergeFault
load_fault (load.Memory _) = Memory
load_fault e = Load e

-- the fault of the log with this index: memory is no log's
abbrev pub at_log : ℕ → ShowFault → MergeFault
at_log n (show.Memory _) = Memory
at_log n e = Log n e

-- how many calls of the port failed, after this answer to a merge
abbrev pub calls_failed : {A : Type 0} → Result A MergeFault → ℕ → ℕ
calls_failed (Err File) n = one_more n
calls_failed r n = n

-- how many reads of the sources failed
abbrev pub reads_failed : {A : Type 0} → Result A MergeFault → ℕ → ℕ
reads_failed (Err (Log index e)) n = failures_after {A = Unit {0}} (Err e) n
reads_failed r n = n

-- ---- the note

-- the same log, and no text
abbrev pub log_alone : Files → Files
log_alone found = record { log = found.log; text = None }

-- what stands beside the operations of a note
abbrev pub beside : Files → Beside
beside found = record { logged = is_some found.log; text = found.text }

-- The log that stands under a name is loaded as that of a replica that may know as much as any: what is merged into it
-- makes no operation.
abbrev pub note_outcome : List ℕ → Files → Result (OpenState × LogEnd) LoadFault
note_outcome name found = load_outcome name 1 1000000 (log_alone found)

-- these files were found, and the log was loaded; no text stood there alone
pub record LoadsNote (calls more : Option (List Call)) (name : List ℕ) (b : OpenState) (s : Beside) : Type 0 where
  pub found : Files
  pub told : Adds calls more (found_call name found ∷ [])
  pub stands : s ≡ beside found
  pub logged : found.log ≡ None → found.text ≡ None
  pub end : LogEnd
  pub outcome : note_outcome name found ≡ Ok (b, end)

-- why files are not loaded
abbrev pub IsNotLoaded : List ℕ → Files → MergeFault → Type 0
IsNotLoaded name found NoLog = (found.log ≡ None) × (found.text ≢ None)
IsNotLoaded name found (Load e) = note_outcome name found ≡ Err e
IsNotLoaded name found fault = ⊥

-- the note was looked for, and is not loaded
pub record FindsNoNote (calls more : Option (List Call)) (name : List ℕ) (fault : MergeFault) : Type 0 where
  pub found : Files
  pub told : Adds calls more (found_call name found ∷ [])
  pub why : IsNotLoaded name found fault

-- faults of the note itself
abbrev pub IsOfNote : MergeFault → Type 0
IsOfNote NoLog = ⊤
IsOfNote (Load e) = ⊤
IsOfNote fault = ⊥

-- faults that the bytes of the logs decide
abbrev pub IsOfLogs : MergeFault → Type 0
IsOfLogs (Log n e) = IsOfInput e
IsOfLogs (Apart n) = ⊤
IsOfLogs (Far n) = ⊤
IsOfLogs fault = ⊥

-- faults of a note that is loaded, or put
abbrev pub IsOfFinding : MergeFault → Type 0
IsOfFinding NoLog = ⊤
IsOfFinding (Load e) = ⊤
IsOfFinding File = ⊤
IsOfFinding (OfMemory _) = ⊤
IsOfFinding fault = ⊥

-- faults of logs that are read and taken
abbrev pub IsOfTaking : MergeFault → Type 0
IsOfTaking NoLog = ⊥
IsOfTaking (Load e) = ⊥
IsOfTaking (TextStays torn) = ⊥
IsOfTaking File = ⊥
IsOfTaking fault = ⊤

-- faults of logs at a note
abbrev pub IsOfMerging : MergeFault → Type 0
IsOfMerging NoLog = ⊥
IsOfMerging (Load e) = ⊥
IsOfMerging File = ⊥
IsOfMerging fault = ⊤

-- what holds of the logs whose last line was left out, where the fault is that the text stays
abbrev pub IfStays : MergeFault → (List Torn → Type 0) → Type 0
IfStays (TextStays torn) Holds = Holds torn.items
IfStays fault Holds = ⊤

-- faults of logs that are read alone
abbrev pub IsOfReading : MergeFault → Type 0
IsOfReading (Log n e) = e ≡ show.Read
IsOfReading (OfMemory _) = ⊤
IsOfReading fault = ⊥

-- ---- logs

-- what logs lead to at a buffer
abbrev pub taking_outcome : OpenState → Bool → List (List ℕ) → Result LogsTaken MergeFault
taking_outcome b adopt logs = merged_from adopt (clock_of b.buffer.content) b.buffer.limit 0 b.buffer.content logs

-- the buffer took all operations of the logs, some of which had last lines that were cut off
pub record TakesLogs (b : OpenState) (adopt : Bool) (logs : List (List ℕ)) (d : OpenState) (torn : List Torn) : Type 0 where
  pub outcome : taking_outcome b adopt logs ≡ Ok (logs_taken d.buffer.content torn)
  pub follows : HasTaken b.buffer d.buffer
  pub rest : d ≡ record b { buffer = d.buffer }

-- ---- the text

-- a text is that of a log alone
abbrev pub shows_text : List ℕ → ShowOutcome → Bool
shows_text text (Ok c) = bytes_eq (text_bytes c) text
shows_text text (Err e) = false

abbrev pub is_text_of : List ℕ → List ℕ → Bool
is_text_of text bytes = shows_text text (note_of 1000000 bytes)

-- whose text it is that stands beside the log of a note with this content, by the logs that it took
abbrev pub owner : Option (List ℕ) → Content → List (List ℕ) → Owner
owner None c logs = Note
owner (Some text) c logs =
    if bytes_eq (text_bytes c) text then Note
    else (if list_any (is_text_of text) logs then AnyLog else Other)

-- a buffer whose text waits where there is a log
abbrev pub text_due : Bool → OpenState → OpenState
text_due logged b = record b { text_waits = logged || b.text_waits }

-- The text is due where there is a log. A note of which there is nothing, and nothing new, stays away.
abbrev pub due : Beside → OpenState → OpenState
due s b = text_due s.logged b

-- the text of a log is put first as it stands: so it is the port's own then, and is not kept
abbrev pub first_calls : Owner → List ℕ → Option (List ℕ) → List Call
first_calls AnyLog name (Some text) = call PutText name text ∷ []
first_calls o name text = []

-- all calls that write
abbrev pub write_calls : Owner → Beside → OpenState → List Call
write_calls o s b = first_calls o b.buffer.name s.text ++ save_calls (due s b)

-- the text of another program stays where nothing is new
abbrev pub Stays : Owner → OpenState → Type 0
Stays o b = (o ≡ Other) × (has_unsaved b ≡ false)

-- ---- the whole

-- the buffer took the logs, the text beside it has this owner, and it goes on to be written
pub record GoesOn (b : OpenState) (s : Beside) (adopt : Bool) (logs : List (List ℕ)) (d : OpenState) (torn : List Torn) (o : Owner) : Type 0 where
  pub takes : TakesLogs b adopt logs d torn
  pub owned : o ≡ owner s.text d.buffer.content logs
  pub goes : ¬ (Stays o d)

-- it took the logs, nothing was new, and the text of another program stands there
pub record LeavesAll (b : OpenState) (s : Beside) (adopt : Bool) (logs : List (List ℕ)) (torn : List Torn) : Type 0 where
  pub d : OpenState
  pub takes : TakesLogs b adopt logs d torn
  pub stays : Stays (owner s.text d.buffer.content logs) d

-- it took the logs, so many of their operations were new, and it was written
pub record MergesInto (calls more : Option (List Call)) (b : OpenState) (s : Beside) (adopt : Bool) (logs : List (List ℕ)) (new : ℕ) (torn : List Torn) : Type 0 where
  pub d : OpenState
  pub o : Owner
  pub goes : GoesOn b s adopt logs d torn o
  pub counted : new ≡ length d.buffer.unsaved
  pub written : Adds calls more (write_calls o s d)

-- the note was loaded before
pub record Merges (calls more : Option (List Call)) (name : List ℕ) (adopt : Bool) (logs : List (List ℕ)) (new : ℕ) (torn : List Torn) : Type 0 where
  pub between : Option (List Call)
  pub b : OpenState
  pub s : Beside
  pub loads : LoadsNote calls between name b s
  pub merges : MergesInto between more b s adopt logs new torn

-- the note was loaded, and a log is refused
pub record RefusesLogs (calls more : Option (List Call)) (name : List ℕ) (adopt : Bool) (logs : List (List ℕ)) (e : MergeFault) : Type 0 where
  pub b : OpenState
  pub s : Beside
  pub loads : LoadsNote calls more name b s
  pub outcome : taking_outcome b adopt logs ≡ Err e

-- the note was loaded, and left as it is for its text
pub record LeavesText (calls more : Option (List Call)) (name : List ℕ) (adopt : Bool) (logs : List (List ℕ)) (torn : List Torn) : Type 0 where
  pub b : OpenState
  pub s : Beside
  pub loads : LoadsNote calls more name b s
  pub leaves : LeavesAll b s adopt logs torn

-- ---- a beginning

-- a call that writes failed: that of the text of a log, or one of the save after it
abbrev pub StopsWriting : PortFault → Option (List Call) → Option (List Call) → Owner → Beside → OpenState → Type 0
StopsWriting fault calls more o s b =
    ((text : List ℕ) × (first_calls o b.buffer.name s.text ≡ call PutText b.buffer.name text ∷ []) × Adds calls more (refusals fault (call PutText b.buffer.name text)))
    ⊎ ((step : SaveStep) × Adds calls more (first_calls o b.buffer.name s.text ++ failed_calls step fault (due s b)))

-- no call but the load was made
abbrev pub OnlyLoads : Option (List Call) → Option (List Call) → List ℕ → Type 0
OnlyLoads calls more name = (given : Result Files PortFault) × Adds calls more (load_told given name)

-- it took the logs, and writing it failed
pub record BeginsInto (calls more : Option (List Call)) (b : OpenState) (s : Beside) (adopt : Bool) (logs : List (List ℕ)) : Type 0 where
  pub d : OpenState
  pub torn : List Torn
  pub o : Owner
  pub goes : GoesOn b s adopt logs d torn o
  pub fault : PortFault
  pub stops : StopsWriting fault calls more o s d

-- the note was loaded before
pub record BeginsToWrite (calls more : Option (List Call)) (name : List ℕ) (adopt : Bool) (logs : List (List ℕ)) : Type 0 where
  pub between : Option (List Call)
  pub b : OpenState
  pub s : Beside
  pub loads : LoadsNote calls between name b s
  pub begins : BeginsInto between more b s adopt logs

-- ---- the text alone

-- the note was loaded, and its text was put
pub record PutsNote (calls more : Option (List Call)) (name : List ℕ) : Type 0 where
  pub between : Option (List Call)
  pub b : OpenState
  pub s : Beside
  pub loads : LoadsNote calls between name b s
  pub written : Adds between more (write_calls Note s b)

-- the note was loaded, and putting its text failed
pub record BeginsToPut (calls more : Option (List Call)) (name : List ℕ) : Type 0 where
  pub between : Option (List Call)
  pub b : OpenState
  pub s : Beside
  pub loads : LoadsNote calls between name b s
  pub fault : PortFault
  pub stops : StopsWriting fault between more Note s b
