use Rattle.std.proofs.Common.{◌∙◌, rules, ◌≤◌, sym, ap, subst}
use Rattle.mg_screen.specs.Size.{most_rows}
use Rattle.mg_screen.specs.Layout.{FillsRows}
use Rattle.mg_screen.specs.Screen.{Screen}
use Rattle.mg_editor.specs.Editors.{Editor}
use Rattle.mg_editor.specs.LiveShowing.{place_cells_in}
use Rattle.mg_editor.proofs.FrameLaws.{screen_filled, rows_from, cursor_at_point_shown, placed_cells}
use Rattle.mg_editor.proofs.editor.Editor.placed_live_frame.Goals as goal

pub place_cells-requires-clause-rows_to : goal.place_cells-requires-clause-rows_to
place_cells-requires-clause-rows_to g c =
    let work = c.args.self.now.work in
    let whole = screen_filled work.buffers.all work.windows c.rows-rows.result c.in_ok-screen.screen (ap (λ (s : Screen). s.panes) c.in_ok-screen.ensures) (search rules) in
    subst (λ n. n ≤ most_rows) (sym whole) c.rows-rows.ensures.rows_to

pub frame_at_point-requires-clause-whole : goal.frame_at_point-requires-clause-whole
frame_at_point-requires-clause-whole g c =
    screen_filled c.args.self.now.work.buffers.all c.args.self.now.work.windows c.rows-rows.result c.in_ok-screen.screen (ap (λ (s : Screen). s.panes) c.in_ok-screen.ensures) (search rules)

pub frame_at_point-requires-clause-rows_from : goal.frame_at_point-requires-clause-rows_from
frame_at_point-requires-clause-rows_from g c = rows_from _ _ c.rows-rows.ensures.filled

pub live_cursor_in-requires-clause-rows_to : goal.live_cursor_in-requires-clause-rows_to
live_cursor_in-requires-clause-rows_to g c =
    let work = c.args.self.now.work in
    let whole = screen_filled work.buffers.all work.windows c.rows-rows.result c.in_ok-screen.screen (ap (λ (s : Screen). s.panes) c.in_ok-screen.ensures) (search rules) in
    subst (λ n. n ≤ most_rows) (sym whole) c.rows-rows.ensures.rows_to

pub live_cursor_in-requires-clause-shown : goal.live_cursor_in-requires-clause-shown
live_cursor_in-requires-clause-shown g c =
    let work = c.args.self.now.work in
    let filled : FillsRows c.rows-rows.result work.windows = search rules in
    cursor_at_point_shown work.buffers.all work.windows work.columns c.in_ok-screen.screen work.windows.current (ap (λ (s : Screen). s.panes) c.in_ok-screen.ensures) filled.tall filled.here

pub returns-clause-places : goal.returns-clause-places
returns-clause-places g c =
    c.in_ok-places.ensures ∙ ap (λ (e : Editor). place_cells_in c.in_ok-screen.screen c.args.live c.args.places.now e.work) c.self.view_is
    ∙ placed_cells c.args.live c.args.places.now c.args.self.now c.in_ok-screen.screen c.in_ok-screen.ensures
