-- How a session begins.
use Rattle.std.specs.Prelude.{◌≡◌, ◌≢◌, ◌⊎◌, ℕ, [], ◌∷◌, Result, Ok, Err}
use Rattle.rga_exchange.specs.Counting.{one_more}
use Rattle.mg_files.specs.Calls.{Adds, load_call, found_call, refused}
use Rattle.mg_files.specs.Files.{Files}
use Rattle.mg_files.specs.Loading.{MayWantMemory}
use Rattle.mg_files.specs.Memory.{LoadMemory}
use Rattle.mg_screen.specs.Settings.{Values}
use Rattle.mg_editor.specs.Editors.{Editor}
use Rattle.mg_editor.specs.Opening.{opened_editor}
use Rattle.mg_session.specs.Moments.{ToldCalls}
use Rattle.mg_session.specs.declared.fault.SessionFault.{SessionFault}
use Rattle.mg_session.specs.declared.fault.SessionFault.TheVariants.{Load, File, Memory}

-- This editor opens by what the first call answered, or none does, for this fault, or the call was refused. Where memory is
-- wanting, it was for that call, or after it: then what was found is refused for nothing that is found without memory.
abbrev pub LoadsTo : Values → ToldCalls → ToldCalls → Result Editor SessionFault → Type 0
LoadsTo v calls told (Ok first) = (found : Files) × Adds calls told (found_call v.name found ∷ []) × (opened_editor v found ≡ Ok first)
LoadsTo v calls told (Err (Load e)) =
    (found : Files) × Adds calls told (found_call v.name found ∷ []) × (opened_editor v found ≡ Err e) × (e ≢ LoadMemory)
LoadsTo v calls told (Err File) = Adds calls told (refused (load_call v.name) ∷ [])
LoadsTo v calls told (Err (Memory _)) =
    Adds calls told [] ⊎ ((found : Files) × Adds calls told (found_call v.name found ∷ []) × MayWantMemory v.replica v.limit found)
LoadsTo v calls told (Err fault) = ⊥

-- how many calls of a port failed, once an editor was opened, or none for this fault
abbrev pub opening_failures : Result Editor SessionFault → ℕ → ℕ
opening_failures (Err File) failed = one_more failed
opening_failures opened failed = failed
