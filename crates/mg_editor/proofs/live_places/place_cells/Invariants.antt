use Rattle.std.proofs.Common.{◌≡◌}
use Rattle.std.specs.List.{flat_map, range_with_len}
use Rattle.mg_editor.specs.LiveShowing.{cells_over, window_cells}
use Rattle.mg_workspace.specs.AtIndex.{state_at}
use Rattle.mg_workspace.specs.Viewports.{shown_buffers}
use Rattle.mg_editor.proofs.live_places.place_cells.Given as goal

abbrev pub invariant-loop-window : goal.invariant-loop-window
invariant-loop-window g l =
    let cells = window_cells l.work.columns l.screen (state_at l.index l.work).content l.elements in
    l.cells.items ≡ flat_map (cells_over (shown_buffers l.work.windows.windows) l.index cells) (range_with_len 0 l.window)
