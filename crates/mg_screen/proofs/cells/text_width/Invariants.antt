use Rattle.std.proofs.Common.{◌≡◌, ◌≤◌, ◌+◌, ◌-◌, drop, length}
use Rattle.std.specs.Str.{chars}
use Rattle.mg_screen.specs.Cells.{cells, cells_from, cells_within, width_of}
use Rattle.mg_screen.proofs.cells.text_width.Given as goal

abbrev pub invariant-loop-c : goal.invariant-loop-c
invariant-loop-c l = record {
  measured : l.column + width_of (cells_within (l.most - l.column) (cells_from l.column (drop (length l.yielded) (chars l.text)))) ≡ width_of (cells_within l.most (cells (chars l.text)));
  fits : l.column ≤ l.most;
}
