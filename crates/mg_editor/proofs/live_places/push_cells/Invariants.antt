use Rattle.std.proofs.Common.{◌≡◌, ◌++◌, take}
use Rattle.std.specs.List.{filter_map}
use Rattle.mg_editor.specs.LiveShowing.{element_cell}
use Rattle.mg_editor.proofs.live_places.push_cells.Given as goal

abbrev pub invariant-loop-element : goal.invariant-loop-element
invariant-loop-element g l =
    l.cells.items ≡ l.fn.cells.items ++ filter_map (element_cell l.columns l.screen l.buffer.content l.window) (take l.element-index l.elements)
