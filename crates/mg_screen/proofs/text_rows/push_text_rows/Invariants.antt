use Rattle.std.proofs.Common.{◌≡◌, ◌≤◌, ◌+◌, ◌-◌, ◌++◌, map, length, string_bytes}
use Rattle.mg_screen.specs.Lines.{lines_on}
use Rattle.mg_screen.specs.Frame.{text_rows}
use Rattle.mg_screen.specs.Written.{utf8}
use Rattle.mg_screen.proofs.text_rows.push_text_rows.Given as goal

abbrev pub invariant-loop-i : goal.invariant-loop-i
invariant-loop-i l = record {
  told : map string_bytes l.rows.items ++ utf8 (text_rows l.columns (l.height - l._i) (lines_on l.text l.start))
      ≡ map string_bytes l.fn.rows.items ++ utf8 (text_rows l.columns l.height (lines_on l.text l.begin));
  within : l.start ≤ length l.text + 1;
}
