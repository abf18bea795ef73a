use Rattle.std.proofs.Common.{◌≡◌, ◌≤◌, ◌-◌, drop}
use Rattle.mg_screen.specs.Cells.{cells, cells_from}
use Rattle.mg_screen.specs.Sideways.{cells_behind}
use Rattle.mg_screen.proofs.sideways.rest_behind.Given as goal

abbrev pub invariant-loop-i : goal.invariant-loop-i
invariant-loop-i l = record {
  left : cells_behind (l.skip - l.column) (cells_from l.column (drop l.i l.line)) ≡ cells_behind l.skip (cells l.line);
  fits : l.column ≤ l.skip;
}
