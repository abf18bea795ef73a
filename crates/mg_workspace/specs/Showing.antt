-- What windows show of the buffers.
use Rattle.std.specs.Prelude.{ℕ, false, List, [], length, map, Option, Some, None, slice_get}
use Rattle.rga_ops.specs.Order.{text, waiting}
use Rattle.mg_buffer.specs.Sight.{place_of}
use Rattle.mg_buffer.specs.OpenState.{OpenState, is_changed}
use Rattle.mg_screen.specs.Layout.{Window, window, Layout, layout}
use Rattle.mg_screen.specs.Lines.{first_line}
use Rattle.mg_screen.specs.Screen.{Pane}
use Rattle.mg_workspace.specs.declared.viewport.Viewport.{Viewport}
use Rattle.mg_workspace.specs.Viewports.{viewport}
use Rattle.mg_workspace.specs.Workspaces.{Workspace}

-- the buffer that a window shows
abbrev pub buffer_of : List OpenState → Window Viewport → Option OpenState
buffer_of bs w = slice_get bs w.shown.buffer

-- the first line of a window over a buffer, so that it shows the line of point; over none, as over an empty text
abbrev pub first_over : Option OpenState → Window Viewport → ℕ
first_over (Some b) w = first_line (text b.buffer.content) (place_of b.buffer.content b.buffer.point) w.shown.first w.height
first_over None w = first_line [] 0 w.shown.first w.height

-- a window from there on
abbrev pub placed_window : List OpenState → Window Viewport → Window Viewport
placed_window bs w = window w.height (viewport w.shown.buffer (first_over (buffer_of bs w) w))

-- all windows
abbrev pub placed_windows : List OpenState → Layout Viewport → Layout Viewport
placed_windows bs l = layout (map (placed_window bs) l.windows) l.current

-- a window over a buffer, as a frame shows it; over none, as over an empty text
abbrev pub pane_over : Option OpenState → Window Viewport → Pane
pane_over (Some b) w = record {
  text = text b.buffer.content;
  point = place_of b.buffer.content b.buffer.point;
  first = w.shown.first;
  height = w.height;
  name = b.buffer.name;
  changed = is_changed b;
  waiting = length (waiting b.buffer.content);
}
pane_over None w = record { text = []; point = 0; first = w.shown.first; height = w.height; name = []; changed = false; waiting = 0 }

abbrev pub pane_of : List OpenState → Window Viewport → Pane
pane_of bs w = pane_over (buffer_of bs w) w

-- all windows, each over its buffer
abbrev pub panes_of : List OpenState → Layout Viewport → List Pane
panes_of bs l = map (pane_of bs) l.windows

-- ---- of a workspace

-- each window shows the line of point
abbrev pub placed_work : Workspace → Workspace
placed_work w = record w { windows = placed_windows w.buffers.all w.windows }

-- the windows as they are shown
abbrev pub work_panes : Workspace → List Pane
work_panes w = panes_of w.buffers.all w.windows
