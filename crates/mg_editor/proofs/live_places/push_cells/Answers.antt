use Rattle.std.proofs.Common.{◌≡◌, ◌∙◌, ◌++◌, List, Option, ap}
use Rattle.std.specs.Option.{option_to_list}
use Rattle.mg_events.specs.declared.status.PlaceStatus.{PlaceStatus}
use Rattle.mg_editor.specs.LiveShowing.{element_cell}
use Rattle.mg_editor.proofs.FrameLaws.{cells_on}
use Rattle.mg_editor.proofs.live_places.push_cells.Goals as goal

pub loop-element-preserved : goal.loop-element-preserved
loop-element-preserved g c =
    let before : List PlaceStatus = c.loop-element.cells.items in
    let cell = element_cell c.args.columns c.args.screen.now c.args.buffer.now.content c.args.window in
    let more : c.push_cell.new.cells.items ≡ before ++ option_to_list (cell c.element-item.result) =
    c.in_ok-push_cell.ensures ∙ ap (λ (o : Option PlaceStatus). before ++ option_to_list o) c.element_cell.ensures in
    cells_on cell c.args.elements.now c.loop-element.element-index c.element-item.result _ _ _ c.loop-element-test.true c.element-item.is c.loop-element.invariant more
