-- What a live session shows of the editor: frames in which each window shows point, and the places of elements in them.
use Rattle.std.specs.Prelude.{ℕ, Bool, false, List, [], length, Option, Some, None, if◌then◌else◌, nat_eq, slice_get}
use Rattle.std.specs.List.{filter_map, flat_map, range_with_len}
use Rattle.std.specs.Option.{option_and_then, option_map, option_map_or}
use Rattle.rga_ops.specs.Content.{Content}
use Rattle.rga_ops.specs.Identifier.{Identifier}
use Rattle.rga_ops.specs.Places.{place}
use Rattle.mg_minibuffer.specs.Echo.{has_cursor}
use Rattle.mg_screen.specs.Cursor.{echo_cursor}
use Rattle.mg_screen.specs.Screen.{Screen}
use Rattle.mg_screen.specs.Sideways.{rows_at_point, cursor_at_point, cell_of_place}
use Rattle.mg_screen.specs.declared.screen.Position.{Position}
use Rattle.mg_events.specs.declared.status.PlaceStatus.{PlaceStatus}
use Rattle.mg_workspace.specs.AtIndex.{state_at}
use Rattle.mg_workspace.specs.Viewports.{shown_buffers}
use Rattle.mg_workspace.specs.Workspaces.{Workspace}
use Rattle.mg_editor.specs.Editors.{Editor}
use Rattle.mg_editor.specs.Frames.{screen_of}
pub use Rattle.mg_editor.specs.LiveStatus.{mode_status, IsPromptStatus, IsBufferStatus, IsPointStatus, AreWindowStatuses}

-- the rows of a frame, from the top on
abbrev pub live_rows : Editor → List (List ℕ)
live_rows e = rows_at_point e.work.columns (screen_of e)

-- the cursor on a screen: in the echo line behind an answer that is typed there, else in the current window at point
abbrev pub live_cursor_in : Editor → Screen → Option Position
live_cursor_in e screen =
    if has_cursor e.talk then Some (echo_cursor e.work.columns screen)
    else cursor_at_point e.work.columns screen e.work.windows.current

-- its cursor
abbrev pub live_cursor : Editor → Option Position
live_cursor e = live_cursor_in e (screen_of e)

-- ---- places of elements

abbrev pub place_status : Identifier → Position → PlaceStatus
place_status id p = record { element = id; row = p.row; column = p.column }

-- the cell of an element's place in the window at an index, if the element has a place, and the window shows it
abbrev pub element_cell : ℕ → Screen → Content → ℕ → Identifier → Option PlaceStatus
element_cell columns screen c window id =
    option_map (place_status id) (option_and_then (cell_of_place columns screen window) (place c id))

-- the cells of several in that window
abbrev pub window_cells : ℕ → Screen → Content → List Identifier → ℕ → List PlaceStatus
window_cells columns screen c ids window = filter_map (element_cell columns screen c window) ids

-- whether a window shows the buffer at an index, by the buffers that all windows show
abbrev pub shows_buffer : List ℕ → ℕ → ℕ → Bool
shows_buffer shown i window = option_map_or (λ b. nat_eq b i) (slice_get shown window) false

-- cells of a window, if it shows the buffer at an index
abbrev pub cells_over : List ℕ → ℕ → (ℕ → List PlaceStatus) → ℕ → List PlaceStatus
cells_over shown i cells window = if shows_buffer shown i window then cells window else []

-- those of each window that shows the buffer at an index, from the top
abbrev pub cells_of_windows : List ℕ → ℕ → (ℕ → List PlaceStatus) → List PlaceStatus
cells_of_windows shown i cells = flat_map (cells_over shown i cells) (range_with_len 0 (length shown))

-- on a screen, in the windows over the live buffer
abbrev pub place_cells_in : Screen → Option ℕ → List Identifier → Workspace → List PlaceStatus
place_cells_in screen None ids w = []
place_cells_in screen (Some i) ids w =
    cells_of_windows (shown_buffers w.windows.windows) i (window_cells w.columns screen (state_at i w).content ids)

-- in a frame
abbrev pub place_cells : Option ℕ → List Identifier → Editor → List PlaceStatus
place_cells live ids e = place_cells_in (screen_of e) live ids e.work
