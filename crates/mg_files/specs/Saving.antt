-- What a save does and what it leaves.
use Rattle.std.specs.Prelude.{◌≡◌, ℕ, ◌&&◌, nat_lt, Bool, true, false, List, [], ◌∷◌, ◌++◌, length, Option, Result, Ok, Err, if◌then◌else◌}
use Rattle.rga_ops.specs.Operations.{operations}
use Rattle.rga_ops.specs.declared.op.Op.{Op}
use Rattle.rga_exchange.specs.RunLines.{runs_text}
use Rattle.rga_exchange.specs.Sending.{log_text}
use Rattle.mg_files.specs.declared.port.CallKind.TheVariants.{Append, Replace, PutText}
use Rattle.mg_files.specs.declared.port.PortFault.{PortFault}
use Rattle.mg_files.specs.Calls.{Call, call, refusals, Adds}
use Rattle.mg_files.specs.Files.{text_bytes}
use Rattle.mg_buffer.specs.OpenState.{OpenState, has_unsaved, is_changed}

-- ---- the calls of a save that are answered `Ok`

-- the most operations of which each always has a line
abbrev pub most_single : ℕ
most_single = 32

-- what is appended: a line an operation, but where runs are asked for and there are more than `most_single` operations, those in a
-- row that are a run in one line
abbrev pub appended_text : Bool → List Op → List ℕ
appended_text runs ops = if runs && nat_lt most_single (length ops) then runs_text ops else log_text ops

-- the call that brings the log up to date: the lines of all operations, where it is to be written whole
abbrev pub log_call : OpenState → Call
log_call b =
    if b.whole then call Replace b.buffer.name (log_text (operations b.buffer.content))
    else call Append b.buffer.name (appended_text b.runs b.buffer.unsaved)

abbrev pub log_calls : OpenState → List Call
log_calls b = if has_unsaved b then log_call b ∷ [] else []

abbrev pub text_call : OpenState → Call
text_call b = call PutText b.buffer.name (text_bytes b.buffer.content)

-- none where nothing is changed; else the log's, where operations are unsaved, and then the text's
abbrev pub save_calls : OpenState → List Call
save_calls b = if is_changed b then log_calls b ++ text_call b ∷ [] else []

-- ---- what is left

-- once the log was written: nothing is unsaved, and the text waits
abbrev pub written : OpenState → OpenState
written b = record b { buffer = record b.buffer { unsaved = [] }; whole = false; text_waits = true }

-- where there was something to write
abbrev pub logged : OpenState → OpenState
logged b = if has_unsaved b then written b else b

-- once the text was put, too
abbrev pub saved : OpenState → OpenState
saved b = record (logged b) { text_waits = false }

-- once writing the log failed
abbrev pub unlogged : OpenState → OpenState
unlogged b = record b { whole = true }

-- ---- a save, by the calls that a port tells before and after it

-- What a save that fails was at: the log, which was due, or else the text.
pub data SaveStep : Type 0 where
  AtLog : SaveStep
  AtText : SaveStep

abbrev pub is_due : SaveStep → OpenState → Bool
is_due AtLog b = has_unsaved b
is_due AtText b = is_changed b

-- the calls of one that ends there with this fault
abbrev pub failed_calls : SaveStep → PortFault → OpenState → List Call
failed_calls AtLog fault b = refusals fault (log_call b)
failed_calls AtText fault b = log_calls b ++ refusals fault (text_call b)

-- and what it leaves: the log was written before the text
abbrev pub failed_state : SaveStep → OpenState → OpenState
failed_state AtLog b = unlogged b
failed_state AtText b = logged b

pub record SaveFailed (step : SaveStep) (fault : PortFault) (old new : Option (List Call)) (b d : OpenState) : Type 0 where
  pub due : is_due step b ≡ true
  pub calls : Adds old new (failed_calls step fault b)
  pub left : d ≡ failed_state step b

-- it was done, and there was something to save or not
pub record IsSaved (changed : Bool) (old new : Option (List Call)) (b d : OpenState) : Type 0 where
  pub told : changed ≡ is_changed b
  pub calls : Adds old new (save_calls b)
  pub left : d ≡ saved b

-- what a save leaves, by what it answers
abbrev pub SavesTo : Result Bool PortFault → Option (List Call) → Option (List Call) → OpenState → OpenState → Type 0
SavesTo (Ok changed) old new b d = IsSaved changed old new b d
SavesTo (Err fault) old new b d = (step : SaveStep) × SaveFailed step fault old new b d

-- ---- the log alone

-- it has all operations, or it had them before
pub record IsLogged (old new : Option (List Call)) (b d : OpenState) : Type 0 where
  pub calls : Adds old new (log_calls b)
  pub left : d ≡ logged b

-- what bringing the log up to date leaves, by what it answers: the text is not put
abbrev pub LogsTo : Result (Unit {0}) PortFault → Option (List Call) → Option (List Call) → OpenState → OpenState → Type 0
LogsTo (Ok done) old new b d = IsLogged old new b d
LogsTo (Err fault) old new b d = SaveFailed AtLog fault old new b d
