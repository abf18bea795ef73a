-- What a live session keeps, and a live session at one moment.
use Rattle.std.specs.Prelude.{ℕ, Bool, List, [], Option, None, Result}
use Rattle.rga_exchange.specs.Counting.{Calls}
use Rattle.rga_ops.specs.Identifier.{Identifier}
use Rattle.mg_files.specs.declared.port.PortFault.{PortFault}
use Rattle.mg_editor.specs.Editors.{Editor}
use Rattle.mg_screen.specs.declared.screen.Position.{Position}
use Rattle.mg_events.specs.declared.status.PlaceStatus.{PlaceStatus}
use Rattle.mg_session.specs.Moments.{ToldCalls, Known}
use Rattle.mg_session.specs.declared.course.Course.{Course}
use Rattle.mg_live.specs.Gathering.{Gathered}
use Rattle.mg_live.specs.Tallies.{Tally}
use Rattle.mg_live.specs.Telling.{Telling}
use Rattle.mg_live.specs.Changes.{Changes}

-- the frame that was shown last: its rows in UTF-8, its cursor, and the cells of the places of others
pub record Shown : Type 0 where
  pub rows : List (List ℕ)
  pub cursor : Option Position
  pub places : List PlaceStatus

abbrev pub nothing_shown : Shown
nothing_shown = record { rows = []; cursor = None; places = [] }

-- how a writing ended
abbrev pub WriteAnswer : Type 0
WriteAnswer = Result (Unit {0}) PortFault

-- the name of the live buffer; how many keys and reports came; pasted text and text of a splice that more is to come of;
-- what is to be told; the changes, where they are asked for; the places of others; whether a log was read; how the last
-- writing of a log ended; and the frame that was shown last
pub record Live : Type 0 where
  pub name : List ℕ
  pub tally : Tally
  pub paste : Gathered
  pub splice : Gathered
  pub telling : Telling
  pub changes : Option Changes
  pub places : List Identifier
  pub loaded : Bool
  pub saved : Option WriteAnswer
  pub shown : Shown

-- the editor, the calls that the port has told, how many of its calls failed, the screen, how the session stands, and what it keeps
pub record Moment : Type 0 where
  pub editor : Editor
  pub calls : ToldCalls
  pub faults : ℕ
  pub screen : Calls Known
  pub course : Course
  pub live : Live

abbrev pub moment : Editor → ToldCalls → ℕ → Calls Known → Course → Live → Moment
moment editor calls faults screen course live = record { editor = editor; calls = calls; faults = faults; screen = screen; course = course; live = live }
