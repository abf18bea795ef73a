use Rattle.std.proofs.Common.{◌≡◌, List, ap, ◌∙◌, slice_get, Some, sym}
use Rattle.std.specs.Option.{option_and_then}
use Rattle.std.proofs.lemmas.Option.{slice_get-get_or}
use Rattle.mg_screen.specs.Screen.{Pane, Screen}
use Rattle.mg_screen.specs.Cursor.{rows_above}
use Rattle.mg_screen.specs.Sideways.{pane_cell}
use Rattle.mg_screen.proofs.sideways_cursors.cell_of_place.Goals as goal

pub returns : goal.returns
returns c =
    let look = c.in_ok-pane.ensures.lookup in
    let shown = c.deref.ensures.value ∙ ap (λ (s : Screen). s.panes) c.screen.view_is in
    let found : slice_get c.args.screen.now.panes c.args.index ≡ Some c.in_ok-pane.pane.now =
    ap (λ (ps : List Pane). slice_get ps c.args.index) (sym shown) ∙ slice_get-get_or c.deref.result.now c.args.index c.in_ok-pane.pane.now look.3.0 ∙ ap Some (sym look.1) in
    c.pane_cell.ensures ∙ ap (λ n. pane_cell c.args.columns n c.args.place c.in_ok-pane.pane.now) c.rows_above.ensures.exact
    ∙ sym (ap (option_and_then (pane_cell c.args.columns (rows_above c.args.index c.args.screen.now.panes) c.args.place)) found)
