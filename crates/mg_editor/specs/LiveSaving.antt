-- What a live session writes: the logs of what was made, and what was touched.
use Rattle.std.specs.Prelude.{◌≡◌, ℕ, ◌+◌, Bool, true, false, ◌&&◌, ◌||◌, nat_eq, List, [], ◌∷◌, Option, Some, None, Result, Ok, Err}
use Rattle.mg_files.specs.Calls.{Call, failures_after}
use Rattle.mg_files.specs.Saving.{LogsTo, SavesTo}
use Rattle.mg_files.specs.declared.port.PortFault.{PortFault}
use Rattle.mg_buffer.specs.OpenState.{OpenState, has_unsaved, is_changed, has_made, is_touched}
use Rattle.mg_workspace.specs.Failures.{noted}
use Rattle.mg_workspace.specs.Workspaces.{Workspace}
use Rattle.mg_workspace.specs.declared.failures.Failed.{Failed}
use Rattle.mg_workspace.specs.declared.failures.Failure.{Failure}
use Rattle.mg_workspace.specs.declared.failures.Task.TheVariants.{Save}
use Rattle.mg_editor.specs.Failing.{port_failure}
use Rattle.mg_editor.specs.declared.live_saving.Writing.{Writing}
use Rattle.mg_editor.specs.declared.live_saving.Writing.TheVariants.{Log, LogAndText}

-- how a writing ended
abbrev pub Ended : Type 0
Ended = Result (Unit {0}) PortFault

-- ---- which buffers are to be written

-- something was made in a buffer, and its log does not have all of it
abbrev pub is_log_due : OpenState → Bool
is_log_due b = has_made b && has_unsaved b

-- the buffer at that index took something from reports
abbrev pub is_live : Option ℕ → ℕ → Bool
is_live None i = false
is_live (Some live) i = nat_eq live i

-- there is something to save, and it was touched or took something from reports
abbrev pub is_save_due : Option ℕ → ℕ → OpenState → Bool
is_save_due live i b = is_changed b && (is_touched b || is_live live i)

-- the buffer at an index is to be written so
abbrev pub is_due : Writing → ℕ → OpenState → Bool
is_due Log i b = is_log_due b
is_due (LogAndText live) i b = is_save_due live i b

-- some buffer is, of those from an index on
abbrev pub is_any_due : Writing → ℕ → List OpenState → Bool
is_any_due writing i [] = false
is_any_due writing i (b ∷ bs) = is_due writing i b || is_any_due writing (i + 1) bs

-- some buffer is to be saved, of those that are open
abbrev pub owes_save : Option ℕ → List OpenState → Bool
owes_save live bs = is_any_due (LogAndText live) 0 bs

-- ---- one writing of a buffer

-- what a save answers that ended so
abbrev pub save_answer : OpenState → Ended → Result Bool PortFault
save_answer b (Ok done) = Ok (is_changed b)
save_answer b (Err fault) = Err fault

-- what it leaves of the buffer, and the calls before and after it
abbrev pub WritesTo : Writing → Ended → Option (List Call) → Option (List Call) → OpenState → OpenState → Type 0
WritesTo Log ended old new b d = LogsTo ended old new b d
WritesTo (LogAndText live) ended old new b d = SavesTo (save_answer b ended) old new b d

-- why it failed
abbrev pub writing_failure : Ended → Option Failure
writing_failure (Ok done) = None
writing_failure (Err fault) = Some (port_failure fault)

-- ---- each buffer in turn

-- what is known between two turns: the calls of the port and how many of them failed, what stands failed in buffers, and how the
-- last writing ended
pub record Course : Type 0 where
  pub calls : Option (List Call)
  pub faults : ℕ
  pub failures : List Failed
  pub saved : Option Ended

abbrev pub course : Option (List Call) → ℕ → List Failed → Option Ended → Course
course calls faults failures saved = record { calls = calls; faults = faults; failures = failures; saved = saved }

-- The buffer at an index was written, which ended so: it is noted as a save of that buffer, done or failed.
pub record IsWritten (writing : Writing) (i : ℕ) (b d : OpenState) (old new : Course) (ended : Ended) : Type 0 where
  pub writes : WritesTo writing ended old.calls new.calls b d
  pub device : new.faults ≡ failures_after ended old.faults
  pub noted : new.failures ≡ noted i Save (writing_failure ended) old.failures
  pub last : new.saved ≡ Some ended

-- the turn of the buffer at an index: nothing is done if it is not to be written
abbrev pub TakesTurn : Bool → Writing → ℕ → OpenState → OpenState → Course → Course → Type 0
TakesTurn true writing i b d old new = (ended : Ended) × IsWritten writing i b d old new ended
TakesTurn false writing i b d old new = (d ≡ b) × (new ≡ old)

-- the turns of the buffers from an index on: what each leaves, in the same order. One that fails does not keep the next from its
-- turn.
abbrev pub Sweeps : Writing → ℕ → List OpenState → List OpenState → Course → Course → Type 0
Sweeps writing i [] [] old new = new ≡ old
Sweeps writing i (b ∷ bs) (d ∷ ds) old new = (mid : Course) × TakesTurn (is_due writing i b) writing i b d old mid × Sweeps writing (i + 1) bs ds mid new
Sweeps writing i _ _ old new = ⊥

-- a workspace with these buffers in place of its own, and with these failures
abbrev pub with_swept : List OpenState → List Failed → Workspace → Workspace
with_swept all failures w = record w { buffers = record w.buffers { all = all }; failures = failures }

-- ---- what stays of a buffer

-- but for what is still to be written of it nothing of a buffer changed
pub record KeepsBuffer (b d : OpenState) : Type 0 where
  pub buffer : d.buffer ≡ record b.buffer { unsaved = d.buffer.unsaved }
  pub runs : d.runs ≡ b.runs
  pub brief : d.brief ≡ b.brief
