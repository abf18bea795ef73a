-- What it leads to that a buffer is asked for by its name.
use Rattle.std.specs.Prelude.{◌≡◌, ◌⊎◌, ℕ, List, [], Option, Some, None, Result, Ok, Err, MatchResult, if◌then◌else◌}
use Rattle.rga_exchange.specs.declared.log.LogEnd.{LogEnd}
use Rattle.mg_buffer.specs.OpenState.{OpenState}
use Rattle.mg_files.specs.Calls.{Call, load_told, Adds}
use Rattle.mg_files.specs.Files.{Files}
use Rattle.mg_files.specs.Loading.{load_outcome, MayWantMemory}
use Rattle.mg_files.specs.declared.fault.LoadFault.{LoadFault}
use Rattle.mg_files.specs.Memory.{LoadMemory as Memory}
use Rattle.mg_files.specs.declared.port.PortFault.{PortFault}
use Rattle.mg_minibuffer.specs.declared.message.Message.TheVariants as message
use Rattle.mg_workspace.specs.Actions.{gone_to}
use Rattle.mg_workspace.specs.Opening.{is_full, with_opened}
use Rattle.mg_workspace.specs.Workspaces.{Workspace}
use Rattle.mg_editor.specs.Editors.{Editor}
use Rattle.mg_editor.specs.Opening.{message_of_end}
use Rattle.mg_editor.specs.Telling.{CarryOutcome, editor_saying}
use Rattle.mg_editor.specs.declared.fault.CarryFault.{CarryFault}
use Rattle.mg_editor.specs.declared.fault.CarryFault.TheVariants.{Port, Load}

-- ---- a buffer that is opened

-- how its log ends, or why none was opened
abbrev pub Opening : Type 0
Opening = Result LogEnd CarryFault

abbrev pub opening_outcome : Opening → CarryOutcome
opening_outcome (Ok end) = Ok (message_of_end end)
opening_outcome (Err fault) = Err fault

-- with what was loaded, and how its log ends; or the fault
abbrev pub open_outcome : Result (OpenState × LogEnd) LoadFault → Workspace → Workspace × Result LogEnd LoadFault
open_outcome (Ok l) w = (with_opened l.0 w, Ok l.1)
open_outcome (Err fault) w = (w, Err fault)

abbrev pub of_load : Result LogEnd LoadFault → Opening
of_load (Ok end) = Ok end
of_load (Err fault) = Err (Load fault)

-- Memory was wanting, before the files of that name were asked for, or after it: then they are refused for nothing that is found
-- without memory. Or else the port gave this answer: files, which were loaded with the replica and the limit of the workspace,
-- or a fault.
abbrev pub Loads : List ℕ → Option (List Call) → Option (List Call) → Opening → Workspace → Workspace → Type 0
Loads name calls more r w v =
    ((v ≡ w) × (r ≡ Err (Load Memory)) × (Adds calls more []
    ⊎ ((found : Files) × Adds calls more (load_told (Ok found) name) × MayWantMemory w.replica w.limit found)))
    ⊎ ((given : Result Files PortFault) × Adds calls more (load_told given name) × MatchResult given
    (λ found. let o = open_outcome (load_outcome name w.replica w.limit found) w in (v ≡ o.0) × (r ≡ of_load o.1))
    (λ fault. (v ≡ w) × (r ≡ Err (Port fault))))

-- ---- a buffer that is asked for

-- the editor where nothing is opened: the buffer at that index is gone to; where there is none, and as many are open as may
-- be, that is said
abbrev pub unopened : Option ℕ → Editor → Option Editor
unopened (Some i) e = Some (record e { work = gone_to i e.work })
unopened None e = if is_full e.work then Some (editor_saying e.work message.TooManyBuffers e) else None
