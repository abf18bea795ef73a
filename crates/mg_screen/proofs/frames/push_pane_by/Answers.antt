use Rattle.std.proofs.Common.{◌≡◌, ◌-◌, ◌+◌, ◌∙◌, length, ap, sym, subst, string_bytes}
use Rattle.mg_screen.specs.Screen.{Pane}
use Rattle.mg_screen.specs.Cursor.{place_line}
use Rattle.mg_screen.specs.Sideways.{point_row, pane_rows_by}
use Rattle.mg_screen.specs.Written.{AddsRows}
use Rattle.mg_screen.proofs.ScreenLaws.{row_inside, rows_moved}
use Rattle.mg_screen.proofs.frames.push_pane_by.Goals as goal

pub put_row-requires : goal.put_row-requires
put_row-requires c =
    let row : c.pane.inside.line - c.pane.inside.first ≡ point_row c.args.pane.now =
    ap (λ k. k - c.pane.inside.first) c.pane.invariant.3 ∙ ap (λ (q : Pane). point_row q) c.pane.view_is in
    row_inside c.args.rows.now.items c.push_pane.new.rows.items c.args.columns _ _ c.args.pane.now c.in_ok-push_pane.ensures (ap length c.as_slice-above.ensures.value)
    (ap (λ k. length c.as_slice-above.result.now + k) row) c.in-Some.ensures.to

pub returns : goal.returns
returns c =
    let row : c.pane.inside.line - c.pane.inside.first ≡ point_row c.args.pane.now =
    ap (λ k. k - c.pane.inside.first) c.pane.invariant.3 ∙ ap (λ (q : Pane). point_row q) c.pane.view_is in
    let seen = ap (λ xs. place_line xs c.pane.inside.point) c.as_slice-text.ensures.value in
    let line = c.line_at-line.ensures.exact ∙ seen ∙ ap (λ (q : Pane). place_line q.text q.point) c.pane.view_is in
    subst (λ b. AddsRows (pane_rows_by b c.args.columns c.args.pane.now) c.args.rows.now.items c.put_row.new.rows.items) (sym c.if-not-at_point.false)
    (rows_moved c.args.rows.now.items c.push_pane.new.rows.items c.put_row.new.rows.items c.args.columns _ _ _ c.args.pane.now (string_bytes c.in_ok-row.row) _
    c.in-Some.ensures.exact c.in_ok-push_pane.ensures (ap length c.as_slice-above.ensures.value) (ap (λ k. length c.as_slice-above.result.now + k) row) line
    c.in_ok-row.ensures c.put_row.ensures)
