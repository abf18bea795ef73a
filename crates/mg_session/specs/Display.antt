-- Frames, as they are written.
use Rattle.std.specs.Prelude.{◌≡◌, ◌⊎◌, ℕ, Bool, true, not, List, ◌++◌, ◌&&◌, is_ok}
use Rattle.std.specs.Io.KnownBytes.{Appends}
use Rattle.rga_exchange.specs.Counting.{Calls, one_more}
use Rattle.rga_lines.specs.Stream.{bytes_of_lines}
use Rattle.mg_screen.specs.Written.{utf8}
use Rattle.mg_editor.specs.Editors.{Editor}
use Rattle.mg_editor.specs.Frames.{editor_frame, placed_editor}
use Rattle.mg_session.specs.Courses.{course_answer}
use Rattle.mg_session.specs.Moments.{Known, Moment}
use Rattle.mg_session.specs.declared.course.Course.{Course}
use Rattle.mg_session.specs.declared.course.Course.TheVariants.{NoScreen}
use Rattle.mg_session.specs.Memory.{CourseMemory as NoMemory}

-- ---- which frames are written

-- where steps are traced, one behind each key, unless it leaves a key sequence begun
abbrev pub follows_key : Bool → Bool → Bool
follows_key trace amid = trace && not amid

-- else one at the end of the session, unless it failed
abbrev pub follows_session : Bool → Course → Bool
follows_session trace course = not trace && is_ok (course_answer course)

-- ---- a frame

-- the frame of an editor, as it is written: its rows, in UTF-8, each with a newline behind it
abbrev pub editor_text : Editor → List ℕ
editor_text e = bytes_of_lines (utf8 (editor_frame e))

-- The windows were placed, and the frame was written and flushed, or the device failed behind a beginning of it; or memory was
-- wanting for it, and nothing was written: the windows were placed then, or not.
pub data Displays (before behind : Moment) : Type 0 where
  whole : (screen : Calls Known)
      → Appends before.screen.inner screen.inner (editor_text (placed_editor before.editor)) → screen.failures ≡ before.screen.failures → screen.flushed ≡ true
      → behind ≡ record before { editor = placed_editor before.editor; screen = screen } → Displays before behind
  begun : (front rest : List ℕ) (screen : Calls Known) → editor_text (placed_editor before.editor) ≡ front ++ rest
      → Appends before.screen.inner screen.inner front → screen.failures ≡ one_more before.screen.failures
      → behind ≡ record before { editor = placed_editor before.editor; screen = screen; course = NoScreen } → Displays before behind
  unmade : (new : Editor) → (new ≡ before.editor) ⊎ (new ≡ placed_editor before.editor)
      → behind ≡ record before { editor = new; course = NoMemory } → Displays before behind
