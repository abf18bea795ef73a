use Rattle.std.proofs.Common.{◌≡◌, ◌≤◌, ◌+◌, drop}
use Rattle.mg_screen.specs.Cells.{cells_from, width_of}
use Rattle.mg_screen.proofs.cells.width_between.Given as goal

abbrev pub invariant-loop-c : goal.invariant-loop-c
invariant-loop-c l = record {
  measured : l.column + width_of (cells_from l.column (drop l.c-index l.line)) ≡ l.start + width_of (cells_from l.start l.line);
  from : l.start ≤ l.column;
  fits : l.column ≤ l.end;
}
