-- What a request that is carried leads to.
use Rattle.std.specs.Prelude.{◌≡◌, Bool, true, false, List, Option, Some, None, Result, Ok, Err, encode_utf8_all}
use Rattle.mg_files.specs.Calls.{Call}
use Rattle.mg_files.specs.Saving.{SavesTo}
use Rattle.mg_files.specs.declared.port.PortFault.{PortFault}
use Rattle.mg_files.specs.Asking.{Connects, Waits}
use Rattle.mg_files.specs.Meeting.{Exchanges}
use Rattle.mg_minibuffer.specs.declared.ending.Request.{Request}
use Rattle.mg_minibuffer.specs.declared.ending.Request.TheVariants.{Save, Find, Exchange, Serve}
use Rattle.mg_minibuffer.specs.declared.message.Message.TheVariants.{Wrote, NoChanges}
use Rattle.mg_editor.specs.Editors.{Editor}
use Rattle.mg_editor.specs.Finding.{Loads, opening_outcome, unopened}
use Rattle.mg_editor.specs.Meeting.{meeting_outcome}
use Rattle.mg_editor.specs.Telling.{CarryAnswer, CarryOutcome, ChangesCurrent, TellsOutcome}
use Rattle.mg_editor.specs.declared.fault.CarryFault.TheVariants.{Port}
use Rattle.mg_workspace.specs.Names.{buffer_named}
use Rattle.mg_workspace.specs.declared.failures.Task.TheVariants as task

-- what came of a save, be there something to save or not
abbrev pub save_outcome : Result Bool PortFault → CarryOutcome
save_outcome (Ok true) = Ok Wrote
save_outcome (Ok false) = Ok NoChanges
save_outcome (Err fault) = Err (Port fault)

-- what the request leads to; where it asks nothing of the port the calls stay
abbrev pub Carried : Request → Option (List Call) → Option (List Call) → Editor → Editor → CarryAnswer → Type 0
Carried Save calls more old new r = ChangesCurrent task.Save (λ answer. SavesTo answer calls more) save_outcome old new r
Carried (Find name) calls more old new r = elim (unopened (buffer_named name old.work.buffers.all) old) [
  | None ↦ TellsOutcome (Loads (encode_utf8_all name) calls more) opening_outcome old new r
  | Some now ↦ (more ≡ calls) × (new ≡ now) × (r ≡ Ok tt)
]
Carried Exchange calls more old new r = ChangesCurrent task.Exchange (λ answer b d. Exchanges Connects calls more b d answer) meeting_outcome old new r
Carried Serve calls more old new r = ChangesCurrent task.Exchange (λ answer b d. Exchanges Waits calls more b d answer) meeting_outcome old new r
Carried request calls more old new r = (more ≡ calls) × (new ≡ old) × (r ≡ Ok tt)
