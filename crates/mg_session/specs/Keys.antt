-- What a key of a session leads to.
use Rattle.std.specs.Prelude.{◌≡◌, ℕ, Ok, Err}
use Rattle.mg_plain.specs.Memory.{NoticeMemory}
use Rattle.mg_minibuffer.specs.declared.ending.Request.{Request}
use Rattle.mg_minibuffer.specs.declared.ending.Request.TheVariants as request
use Rattle.mg_minibuffer.specs.declared.message.Message.TheVariants.{Refused}
use Rattle.mg_editor.specs.Carrying as carrying
use Rattle.mg_editor.specs.Editors.{Editor}
use Rattle.mg_editor.specs.Presses as presses
use Rattle.mg_editor.specs.Telling as telling
use Rattle.mg_session.specs.Moments.{Moment}
use Rattle.mg_session.specs.declared.course.Course.{Course}
use Rattle.mg_session.specs.declared.course.Course.TheVariants.{On, Quit}

-- what a press requests
abbrev pub request_of : presses.PressAnswer → Request
request_of (Ok asked) = asked
request_of (Err fault) = request.Idle

-- want of memory is said
abbrev pub said : presses.PressAnswer → Editor → Editor
said (Ok asked) e = e
said (Err fault) e = record e { talk = record e.talk { message = Refused NoticeMemory } }

-- a session ends behind a request to quit
abbrev pub course_behind : Request → Course
course_behind request.Quit = Quit
course_behind asked = On

-- The byte was pressed, want of memory was said, and what was requested was carried.
pub record TakesKey (byte : ℕ) (before behind : Moment) : Type 0 where
  pub answer : presses.PressAnswer
  pub pressed : Editor
  pub carry_answer : telling.CarryAnswer
  pub presses : presses.Pressed byte before.editor pressed answer
  pub carried : carrying.Carried (request_of answer) before.calls behind.calls (said answer pressed) behind.editor carry_answer
  pub screen : behind.screen ≡ before.screen
  pub course : behind.course ≡ course_behind (request_of answer)
