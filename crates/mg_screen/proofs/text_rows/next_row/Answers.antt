use Rattle.std.proofs.Common.{◌∙◌, ap, sym, encode_utf8_all, drop}
use Rattle.mg_screen.specs.Frame.{first_row}
use Rattle.mg_screen.proofs.LineLaws.{next_line}
use Rattle.mg_screen.proofs.text_rows.next_row.Goals as goal

pub returns-clause-row : goal.returns-clause-row
returns-clause-row c =
    let line = next_line c.args.text.now c.args.start c.line_end-end.result c.if-start-text.false c.line_end-end.ensures.exact in
    c.in_ok-row.ensures ∙ ap (λ ls. encode_utf8_all (first_row c.args.columns ls)) (sym line)

pub returns-clause-next : goal.returns-clause-next
returns-clause-next c =
    let line = next_line c.args.text.now c.args.start c.line_end-end.result c.if-start-text.false c.line_end-end.ensures.exact in
    ap (drop 1) (sym line)
