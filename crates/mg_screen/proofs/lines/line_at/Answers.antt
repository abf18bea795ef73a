use Rattle.std.proofs.Common.{◌-◌, ap, arith}
use Rattle.mg_screen.proofs.PlaceLaws.{column_within, column_in_line, line_is}
use Rattle.mg_screen.proofs.lines.line_at.Goals as goal

pub overflow_sub-start : goal.overflow_sub-start
overflow_sub-start c = omega (arith, c.requires.column, column_within c.args.text.now c.args.place)

pub returns-clause-exact : goal.returns-clause-exact
returns-clause-exact c =
    let begin = ap (λ k. c.args.place - k) c.requires.column in
    line_is c.args.text.now c.args.place (c.args.place - c.args.count) c.line_end-end.result c.requires.within begin c.line_end-end.ensures.exact

pub returns-clause-within : goal.returns-clause-within
returns-clause-within c =
    let begin = ap (λ k. c.args.place - k) c.requires.column in
    let all = column_in_line c.args.text.now c.args.place (c.args.place - c.args.count) c.line_end-end.result
    c.requires.within begin c.line_end-end.ensures.exact c.line_end-end.ensures.within in
    omega (arith, all, c.requires.column)
