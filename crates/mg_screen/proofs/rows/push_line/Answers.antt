use Rattle.std.proofs.Common.{◌-◌, ◌++◌, ◌∙◌, ap, sym, arith, string_bytes, encode_utf8_all}
use Rattle.mg_screen.specs.Cells.{cells_from}
use Rattle.mg_screen.proofs.SidewaysLaws.{row_whole, row_cut}
use Rattle.mg_screen.proofs.rows.push_line.Goals as goal

pub returns-then-is_some : goal.returns-then-is_some
returns-then-is_some c =
    let whole = row_whole (c.args.end - c.args.start) (cells_from c.args.start c.args.line.now) _ c.width_between.ensures (sym c.is_some.ensures ∙ c.if-is_some.true) in
    c.in_ok-push_between.ensures ∙ ap (λ cs. string_bytes c.args.row.now ++ encode_utf8_all cs) (sym whole)

pub returns : goal.returns
returns c = row_cut (c.args.end - c.args.start) _ (cells_from c.args.start c.args.line.now) _ _ _ _ c.width_between.ensures (sym c.is_some.ensures ∙ c.if-is_some.false) (omega arith)
    c.in_ok-push_between-2.ensures c.in_ok-push.ensures.bytes
