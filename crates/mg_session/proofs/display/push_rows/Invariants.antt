use Rattle.std.proofs.Common.{◌≡◌, ◌++◌, drop, map, string_bytes}
use Rattle.rga_lines.specs.Stream.{bytes_of_lines}
use Rattle.mg_session.proofs.display.push_rows.Given as goal

abbrev pub invariant-loop-row : goal.invariant-loop-row
invariant-loop-row l =
    l.bytes.items ++ bytes_of_lines (map string_bytes (drop l.row-index l.rows)) ≡ l.initial.bytes.items ++ bytes_of_lines (map string_bytes l.rows)
