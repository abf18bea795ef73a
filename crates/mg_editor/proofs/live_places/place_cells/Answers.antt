use Rattle.mg_workspace.specs.AtIndex.{state_at}
use Rattle.mg_workspace.specs.Viewports.{shown_buffers}
use Rattle.mg_editor.specs.LiveShowing.{cells_over, window_cells}
use Rattle.mg_editor.proofs.FrameLaws.{windows_on}
use Rattle.mg_editor.proofs.live_places.place_cells.Goals as goal

pub loop-window-preserved : goal.loop-window-preserved
loop-window-preserved g c =
    let work = c.args.work.now in
    let cells = window_cells work.columns c.args.screen.now (state_at c.in-Some.index work).content c.args.elements.now in
    windows_on (cells_over (shown_buffers work.windows.windows) c.in-Some.index cells) c.loop-window.window c.loop-window.cells.items c.push_cells_over.new.cells.items
    c.loop-window.invariant c.in_ok-push_cells_over.ensures
