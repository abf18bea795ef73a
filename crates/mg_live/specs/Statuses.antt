-- The statuses of a live session, and what stands after them.
use Rattle.std.specs.Prelude.{◌≡◌, ◌↔◌, ◌⊎◌, ℕ, Bool, true, false, not, ◌&&◌, List, [], ◌++◌, length, map, filter, Option, Some, None, is_some, Ok, Err, option_map, if◌then◌else◌, nat_eq}
use Rattle.std.specs.Bool.{MatchBool}
use Rattle.std.specs.Borrow.{Bor}
use Rattle.std.specs.Cmp.Lexicographic.{pointwise}
use Rattle.mg_screen.specs.Written.{utf8}
use Rattle.rga_exchange.specs.Counting.{Calls, one_more}
use Rattle.std.specs.Io.KnownBytes.{Appends}
use Rattle.rga_lines.specs.Stream.{bytes_of_lines, newline}
use Rattle.rga_ops.specs.Splice.{Splice}
use Rattle.mg_files.specs.declared.port.PortFault.TheVariants as port
use Rattle.mg_keys.specs.Begun.{HasBegun}
use Rattle.mg_minibuffer.specs.Messages.{message_text}
use Rattle.mg_editor.specs.Editors.{Editor}
use Rattle.mg_editor.specs.Frames.{placed_editor}
use Rattle.mg_editor.specs.LiveShowing.{live_rows, live_cursor, place_cells, mode_status, IsBufferStatus, IsPromptStatus, IsPointStatus, AreWindowStatuses}
use Rattle.mg_session.specs.Moments.{Known}
use Rattle.mg_session.specs.declared.course.Course.{Course}
use Rattle.mg_session.specs.declared.course.Course.TheVariants.{On, Quit, NoKeys, NoScreen, NoMemory as OfNoMemory}
use Rattle.mg_session.specs.Memory.{CourseMemory as NoMemory}
use Rattle.mg_events.specs.StatusText.{status_text}
use Rattle.mg_events.specs.declared.status.BufferStatus.{BufferStatus}
use Rattle.mg_events.specs.declared.status.Saved.{Saved}
use Rattle.mg_events.specs.declared.status.Saved.TheVariants.{Unsaved, Done, File, Memory}
use Rattle.mg_events.specs.declared.status.Status.{Status}
use Rattle.mg_workspace.specs.Buffers.{buffer_at}
use Rattle.mg_workspace.specs.Workspaces.{workspace_buffer}
use Rattle.mg_live.specs.Changes.{Changes}
use Rattle.mg_live.specs.Made.{live_index}
use Rattle.mg_live.specs.Tallies.{told_refusal}
use Rattle.mg_live.specs.declared.picture.After.{After}
use Rattle.mg_live.specs.States.{Live, Moment, WriteAnswer, Shown}

-- ---- what a status says

-- how the last writing of a log ended
abbrev pub saved_status : Option WriteAnswer → Saved
saved_status None = Unsaved
saved_status (Some (Ok u)) = Done
saved_status (Some (Err port.File)) = File
saved_status (Some (Err (port.Memory _))) = Memory

-- the live buffer, where it is open
abbrev pub IsLiveStatus : Option ℕ → Editor → Option BufferStatus → Type 0
IsLiveStatus None e None = Unit {0}
IsLiveStatus None e (Some s) = ⊥
IsLiveStatus (Some i) e None = ⊥
IsLiveStatus (Some i) e (Some s) = IsBufferStatus (buffer_at i e.work.buffers) s

-- the changes, where they are asked for
abbrev pub AreChanges : Option Changes → Option (Bor (List Splice)) → Type 0
AreChanges changes told = option_map (λ (list : Bor (List Splice)). list.now) told ≡ option_map (λ (c : Changes). c.list) changes

-- each member of a status, by the editor and by what the session keeps
pub record IsStatus (live : Live) (e : Editor) (after : After) (s : Status) : Type 0 where
  pub begun : (s.begun ≡ false) ↔ HasBegun e.talk.keys []
  pub buffer : IsBufferStatus (workspace_buffer e.work) s.buffer
  pub changes : AreChanges live.changes s.changes
  pub cursor : s.cursor ≡ live.shown.cursor
  pub keys : s.keys ≡ live.tally.keys
  pub live_buffer : IsLiveStatus (live_index live.name e) e s.live
  pub loaded : s.loaded ≡ live.loaded
  pub message : s.message.now ≡ message_text e.talk.message (workspace_buffer e.work).buffer.name
  pub mode : s.mode ≡ mode_status e.talk.prompt
  pub more : s.more ≡ after.more
  pub operations : s.operations ≡ after.operations
  pub places : s.places.now ≡ live.shown.places
  pub point : IsPointStatus (workspace_buffer e.work).buffer s.point
  pub prompt : IsPromptStatus e.talk.prompt s.prompt
  pub refused : map told_refusal s.refused.now ≡ live.tally.refused
  pub reports : s.reports ≡ live.tally.reports
  pub rows : s.rows ≡ after.rows
  pub saved : s.saved ≡ saved_status live.saved
  pub windows : AreWindowStatuses e.work s.windows.now

-- ---- a status as it is written

-- what is shown: the frame of an editor whose windows are placed, and the cells of places in it
abbrev pub IsShown : Live → Editor → Shown → Type 0
IsShown live e shown =
    (shown.rows ≡ utf8 (live_rows e)) × (shown.cursor ≡ live_cursor e) × (shown.places ≡ place_cells (live_index live.name e) live.places e)

-- how many lines these are
abbrev pub line_count : List ℕ → ℕ
line_count bytes = length (filter (nat_eq newline) bytes)

-- a frame is drawn: it is asked for, and changes are not told in its place
abbrev pub draws : Bool → Live → Bool
draws fresh live = fresh && not (is_some live.changes)

-- The frame was drawn, and is what was shown last from then on; whether its rows are other ones than before.
pub record Draws (is_new : Bool) (live next : Live) (f : Editor) : Type 0 where
  pub shown : IsShown live f next.shown
  pub rest : next ≡ record live { shown = next.shown }
  pub new : is_new ≡ not (pointwise (pointwise nat_eq) live.shown.rows next.shown.rows)

-- the rows that stand after a status: those that were shown last, if they are new
abbrev pub rows_after : Bool → Live → List (List ℕ)
rows_after is_new live = if is_new then live.shown.rows else []

-- the bytes of a status, then those rows, and then lines of operations
pub record IsPicture (is_new more : Bool) (told : List ℕ) (live : Live) (e : Editor) (bytes : List ℕ) : Type 0 where
  pub status : Status
  pub is : IsStatus live e (record { rows = length (rows_after is_new live); operations = line_count told; more = more }) status
  pub written : bytes ≡ status_text status ++ (bytes_of_lines (rows_after is_new live) ++ told)

-- A frame was drawn, once the windows were placed, or none.
abbrev pub Readies : Bool → Bool → Live → Editor → Live → Editor → Type 0
Readies fresh is_new live e next f = MatchBool (draws fresh live)
    (Draws is_new live next f × (f ≡ placed_editor e))
    ((is_new ≡ false) × (next ≡ live) × (f ≡ e))

-- A frame was drawn or none; and these are the bytes then.
pub record Pictures (fresh more : Bool) (told : List ℕ) (live : Live) (e : Editor) (next : Live) (f : Editor) (bytes : List ℕ) : Type 0 where
  pub is_new : Bool
  pub drawn : Readies fresh is_new live e next f
  pub is : IsPicture is_new more told next f bytes

-- a status may be written
abbrev pub can_show : Course → Bool
can_show On = true
can_show Quit = true
can_show NoKeys = false
can_show NoScreen = false
can_show (OfNoMemory _) = false

-- Memory was wanting before a frame was drawn, or after it was, or none was to be.
abbrev pub LeavesUnmade : Bool → Live → Editor → Live → Editor → Type 0
LeavesUnmade fresh live e next f = ((next ≡ live) × (f ≡ e)) ⊎ ((is_new : Bool) × Readies fresh is_new live e next f)

-- A status with what stands after it was written and flushed, or the device failed after a beginning of it; or memory was wanting for it, and
-- nothing was written.
pub data Shows (fresh more : Bool) (told : List ℕ) (before after : Moment) : Type 0 where
  whole : (bytes : List ℕ) (screen : Calls Known) (next : Live) (f : Editor) → Pictures fresh more told before.live before.editor next f bytes
      → Appends before.screen.inner screen.inner bytes → screen.failures ≡ before.screen.failures → screen.flushed ≡ true
      → after ≡ record before { editor = f; screen = screen; live = next } → Shows fresh more told before after
  begun : (front rest : List ℕ) (screen : Calls Known) (next : Live) (f : Editor) → Pictures fresh more told before.live before.editor next f (front ++ rest)
      → Appends before.screen.inner screen.inner front → screen.failures ≡ one_more before.screen.failures
      → after ≡ record before { editor = f; screen = screen; course = NoScreen; live = next } → Shows fresh more told before after
  unmade : (next : Live) (f : Editor) → LeavesUnmade fresh before.live before.editor next f
      → after ≡ record before { editor = f; course = NoMemory; live = next } → Shows fresh more told before after
