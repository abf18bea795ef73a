use Rattle.std.proofs.Common.{◌≡◌, ◌≤◌, ◌+◌, length}
use Rattle.mg_screen.specs.Lines.{column_of, line_index}
use Rattle.mg_screen.proofs.lines.begin_above.Given as goal

abbrev pub invariant-loop-i : goal.invariant-loop-i
invariant-loop-i l = record {
  within : l.start ≤ length l.text;
  begins : column_of l.text l.start ≡ 0;
  line : line_index l.text l.start + l._i ≡ line_index l.text l.begin;
}
