-- A session at one moment.
use Rattle.std.specs.Prelude.{◌≡◌, ℕ, Bool, true, false, List, Option}
use Rattle.rga_exchange.specs.Counting.{Calls}
use Rattle.mg_files.specs.Calls.{Call}
use Rattle.mg_editor.specs.Editors.{Editor}
use Rattle.mg_session.specs.declared.course.Course.{Course}

-- the calls that a port tells
abbrev pub ToldCalls : Type 0
ToldCalls = Option (List Call)

-- the bytes of a device, where they are known
abbrev pub Known : Type 0
Known = Option (List ℕ)

-- a device, by these in its place
abbrev pub seen : {T : Type 0} → (T → Known) → Calls T → Calls Known
seen known c = record { inner = known c.inner; failures = c.failures; left = c.left; at_end = c.at_end; flushed = c.flushed }

-- its editor, the calls that its port has told, its screen, and how it stands
pub record Moment : Type 0 where
  pub editor : Editor
  pub calls : ToldCalls
  pub screen : Calls Known
  pub course : Course

abbrev pub moment : Editor → ToldCalls → Calls Known → Course → Moment
moment editor calls screen course = record { editor = editor; calls = calls; screen = screen; course = course }

-- what is done from one moment to another where that is asked for, and else nothing
abbrev pub StepIf : {M : Type 0} → Bool → (M → M → Type 0) → M → M → Type 0
StepIf true Does before behind = Does before behind
StepIf false Does before behind = behind ≡ before
