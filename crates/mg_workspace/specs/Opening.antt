-- The workspace of one buffer, and buffers that are opened in it.
use Rattle.std.specs.Prelude.{◌-◌, Bool, [], ◌∷◌, length, nat_le}
use Rattle.mg_plain.specs.declared.view.Kind.TheVariants.{Plain}
use Rattle.mg_buffer.specs.OpenState.{OpenState, with_brief, with_runs}
use Rattle.mg_screen.specs.Layout.{layout, window}
use Rattle.mg_screen.specs.Settings.{Values}
use Rattle.mg_workspace.specs.Buffers.{most_buffers, with_buffer}
use Rattle.mg_workspace.specs.Viewports.{viewport, turned_to_buffer}
use Rattle.mg_workspace.specs.Workspaces.{Workspace}

-- one buffer in one window, from its first line on
abbrev pub workspace : Values → OpenState → Workspace
workspace v b = record {
  buffers = record { all = with_brief v.brief (with_runs v.runs b) ∷ []; current = 0 };
  notes = record { kill = []; kind = Plain; goal = 0 };
  windows = layout (window (v.rows - 2) (viewport 0 0) ∷ []) 0;
  fill = v.fill;
  columns = v.columns;
  replica = v.replica;
  limit = v.limit;
  runs = v.runs;
  brief = v.brief;
  failures = [];
}

-- as many buffers are open as may be
abbrev pub is_full : Workspace → Bool
is_full w = nat_le most_buffers (length w.buffers.all)

-- one more buffer, of which saves append runs or do not, and exchanges are brief or not, as the settings say, and which is
-- current and shown by the current window
abbrev pub with_opened : OpenState → Workspace → Workspace
with_opened b w = record w { buffers = with_buffer (with_brief w.brief (with_runs w.runs b)) w.buffers; windows = turned_to_buffer (length w.buffers.all) w.windows }
