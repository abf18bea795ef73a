use Rattle.std.proofs.Common.{ap, arith}
use Rattle.mg_screen.specs.Cells.{shown_cells}
use Rattle.mg_screen.proofs.CellLaws.{row_on, beginning_on}
use Rattle.mg_screen.proofs.cells.push_between.Goals as goal

pub loop-c-preserved : goal.loop-c-preserved
loop-c-preserved c = record {
  told = row_on _ _ _ _ _ _ c.in_ok-push_cell.ensures
      (ap shown_cells (beginning_on c.args.line.now c.args.end c.loop-c.column c.loop-c.c-index c.c-item.result c.cell_width-width.result
      c.loop-c-test.true c.c-item.is c.cell_width-width.ensures.width c.if-width-end.false c.loop-c.invariant.fits))
      c.loop-c.invariant.told;
  fits = omega (arith, c.if-width-end.false, c.loop-c.invariant.fits);
}
