use Rattle.std.proofs.Common.{arith}
use Rattle.mg_screen.proofs.LineLaws.{lines_less, none_left}
use Rattle.mg_screen.proofs.lines.begin_below.Goals as goal

pub loop-i-preserved : goal.loop-i-preserved
loop-i-preserved c = record {
  within = omega (arith, c.line_end-start.ensures.within);
  lines_left = lines_less _ _ c.loop-i.start c.line_end-start.result c.loop-i._i c.if-start-text.false c.line_end-start.ensures.exact c.loop-i.invariant.lines_left;
}

pub returns-then-start-text-clause-exact : goal.returns-then-start-text-clause-exact
returns-then-start-text-clause-exact c =
    none_left _ _ c.loop-i.start c.loop-i._i c.args.count c.if-start-text.true (omega (arith, c.loop-i-test.true)) c.loop-i.invariant.lines_left
