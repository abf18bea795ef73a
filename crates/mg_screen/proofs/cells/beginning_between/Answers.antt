use Rattle.std.proofs.Common.{arith}
use Rattle.mg_screen.proofs.CellLaws.{beginning_width_on}
use Rattle.mg_screen.proofs.cells.beginning_between.Goals as goal

pub loop-c-preserved : goal.loop-c-preserved
loop-c-preserved c = record {
  measured = beginning_width_on c.args.line.now c.args.end c.loop-c.column c.loop-c.c-index c.c-item.result c.cell_width-width.result
      c.loop-c-test.true c.c-item.is c.cell_width-width.ensures.width (omega (arith, c.if-width-end.false)) c.loop-c.invariant.fits
      c.loop-c.invariant.measured;
  from = omega (arith, c.loop-c.invariant.from);
  fits = omega (arith, c.if-width-end.false, c.loop-c.invariant.fits);
}
