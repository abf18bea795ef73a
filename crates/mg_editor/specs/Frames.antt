-- What a frame shows of the editor.
use Rattle.std.specs.Prelude.{ℕ, List, Option, Some, if◌then◌else◌}
use Rattle.mg_screen.specs.declared.screen.Position.{Position}
use Rattle.mg_screen.specs.Cursor.{cursor, echo_cursor}
use Rattle.mg_screen.specs.Frame.{frame_rows}
use Rattle.mg_screen.specs.Screen.{Screen}
use Rattle.mg_minibuffer.specs.Echo.{echo_text, has_cursor}
use Rattle.mg_editor.specs.Editors.{Editor}
use Rattle.mg_workspace.specs.Showing.{placed_work, work_panes}
use Rattle.mg_workspace.specs.Workspaces.{workspace_buffer}

-- what the echo line says: a message that names a buffer has the name of the current one
abbrev pub said_in : Editor → List ℕ
said_in e = echo_text e.talk (workspace_buffer e.work).buffer.name

-- the screen of an editor: its windows, each over its buffer, and the echo line
abbrev pub screen_of : Editor → Screen
screen_of e = record { panes = work_panes e.work; echo = said_in e }

-- the rows of its frame, from the top on
abbrev pub editor_frame : Editor → List (List ℕ)
editor_frame e = frame_rows e.work.columns (screen_of e)

-- the cursor on a screen: in the echo line behind an answer that is typed there, else in the current window at point
abbrev pub cursor_in : Editor → Screen → Option Position
cursor_in e screen =
    if has_cursor e.talk then Some (echo_cursor e.work.columns screen)
    else cursor e.work.columns screen e.work.windows.current

-- its cursor
abbrev pub editor_cursor : Editor → Option Position
editor_cursor e = cursor_in e (screen_of e)

-- the editor, once its windows are placed
abbrev pub placed_editor : Editor → Editor
placed_editor e = record e { work = placed_work e.work }
