use Rattle.std.proofs.Common.{rules, ◌≤◌, sym, ap, subst}
use Rattle.mg_screen.specs.Size.{most_rows}
use Rattle.mg_screen.specs.Layout.{FillsRows}
use Rattle.mg_screen.specs.Screen.{Screen}
use Rattle.mg_editor.proofs.FrameLaws.{screen_filled, rows_from}
use Rattle.mg_workspace.proofs.ShownWindows.{cursor_shown}
use Rattle.mg_editor.proofs.editor.Editor.placed_frame.Goals as goal

pub frame-requires-clause-whole : goal.frame-requires-clause-whole
frame-requires-clause-whole g c =
    screen_filled c.args.self.now.work.buffers.all c.args.self.now.work.windows c.rows-rows.result c.in_ok-screen.screen (ap (λ (s : Screen). s.panes) c.in_ok-screen.ensures) (search rules)

pub frame-requires-clause-rows_from : goal.frame-requires-clause-rows_from
frame-requires-clause-rows_from g c = rows_from _ _ c.rows-rows.ensures.filled

pub cursor_in-requires-clause-rows_to : goal.cursor_in-requires-clause-rows_to
cursor_in-requires-clause-rows_to g c =
    let work = c.args.self.now.work in
    let whole = screen_filled work.buffers.all work.windows c.rows-rows.result c.in_ok-screen.screen (ap (λ (s : Screen). s.panes) c.in_ok-screen.ensures) (search rules) in
    subst (λ n. n ≤ most_rows) (sym whole) c.rows-rows.ensures.rows_to

pub cursor_in-requires-clause-shown : goal.cursor_in-requires-clause-shown
cursor_in-requires-clause-shown g c =
    let work = c.args.self.now.work in
    let filled : FillsRows c.rows-rows.result work.windows = search rules in
    cursor_shown work.buffers.all work.windows work.columns c.in_ok-screen.screen work.windows.current (ap (λ (s : Screen). s.panes) c.in_ok-screen.ensures) filled.tall filled.here
