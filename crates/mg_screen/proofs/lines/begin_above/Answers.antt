use Rattle.std.proofs.Common.{arith}
use Rattle.mg_screen.proofs.PlaceLaws.{line_above}
use Rattle.mg_screen.proofs.lines.begin_above.Goals as goal

pub loop-i-preserved : goal.loop-i-preserved
loop-i-preserved c =
    let above = line_above c.args.text.now c.loop-i.start c.loop-i.invariant.within c.loop-i.invariant.begins
    (omega (arith, c.loop-i.invariant.line, c.loop-i-test.true, c.requires.above)) in
    record {
      within = c.line_begin-start.ensures.within;
      begins = c.line_begin-start.ensures.begins;
      line = omega (arith, c.line_begin-start.ensures.line, above.1, c.loop-i.invariant.line);
    }
