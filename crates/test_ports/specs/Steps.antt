-- The steps of a disk in memory, and the log over it.
use Rattle.std.specs.Prelude.{◌≡◌, ℕ, Bool, true, false, List, [], ◌∷◌, ◌++◌, Option, Some, None, Result, Ok, Err}
use Rattle.mgr_port.specs.Disk.{DiskStep, BeginsSteps, Empties, Writes, Syncs, Keeps, TakesName, SyncsFolder, Removes}
use Rattle.mgr_port.specs.Logs.{Standing}
use Rattle.test_ports.specs.declared.disk.StepKind.{StepKind}
use Rattle.test_ports.specs.declared.disk.StepKind.TheVariants as kind

abbrev pub disk_step_of : StepKind → List ℕ → DiskStep
disk_step_of kind.Empty bytes = Empties
disk_step_of kind.Write bytes = Writes bytes
disk_step_of kind.Sync bytes = Syncs
disk_step_of kind.Keep bytes = Keeps
disk_step_of kind.TakeName bytes = TakesName
disk_step_of kind.SyncFolder bytes = SyncsFolder

-- a step was made, or failed and was not
abbrev pub Does : {A E : Type 0} → Result A E → DiskStep → List DiskStep → List DiskStep → Type 0
Does (Ok a) step old new = new ≡ old ++ step ∷ []
Does (Err e) step old new = new ≡ old

-- so far it went, of steps that all come before the file beside has the name
pub record StopsBefore (old new wanted : List DiskStep) : Type 0 where
  pub made : List DiskStep
  pub begins : BeginsSteps made wanted
  pub tells : new ≡ old ++ made

-- the step of a file beside that was removed
abbrev pub left_steps : Bool → List DiskStep
left_steps true = Removes ∷ []
left_steps false = []

-- what is told of the one log stands under the empty name
abbrev pub standing_at : {A : Type 0} → List ℕ → A → Option A
standing_at [] s = Some s
standing_at (byte ∷ name) s = None

-- a log after these steps, and the removal of the file beside
abbrev pub with_steps : List ℕ → List DiskStep → Bool → Standing
with_steps log steps left = record { log = log; steps = steps ++ left_steps left }

abbrev pub memory_standing : List ℕ → List DiskStep → Bool → List ℕ → Option Standing
memory_standing log steps left name = standing_at name (with_steps log steps left)
