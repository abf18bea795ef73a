use Rattle.std.proofs.Common.{◌-◌, ap, ◌∙◌, arith}
use Rattle.mg_screen.specs.Lines.{column_of, line_index}
use Rattle.mg_screen.proofs.PlaceLaws.{column_within, line_begin}
use Rattle.mg_screen.proofs.lines.line_begin.Goals as goal

pub overflow_sub-result : goal.overflow_sub-result
overflow_sub-result c = omega (arith, c.column_of.ensures.exact, column_within c.args.text.now c.args.place)

pub returns-clause-begins : goal.returns-clause-begins
returns-clause-begins c =
    ap (λ k. column_of c.args.text.now (c.args.place - k)) c.column_of.ensures.exact ∙ (line_begin c.args.text.now c.args.place c.requires).first

pub returns-clause-line : goal.returns-clause-line
returns-clause-line c =
    ap (λ k. line_index c.args.text.now (c.args.place - k)) c.column_of.ensures.exact ∙ (line_begin c.args.text.now c.args.place c.requires).same
