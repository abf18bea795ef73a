use Rattle.std.proofs.Common.{◌≡◌, ◌≤◌, ◌-◌, ◌++◌, drop, string_bytes, encode_utf8_all}
use Rattle.mg_screen.specs.Cells.{cells_from, cells_within, shown_cells}
use Rattle.mg_screen.proofs.cells.push_between.Given as goal

abbrev pub invariant-loop-c : goal.invariant-loop-c
invariant-loop-c l = record {
  told : string_bytes l.row ++ encode_utf8_all (shown_cells (cells_within (l.end - l.column) (cells_from l.column (drop l.c-index l.line))))
      ≡ string_bytes l.fn.row ++ encode_utf8_all (shown_cells (cells_within (l.end - l.start) (cells_from l.start l.line)));
  fits : l.column ≤ l.end;
}
