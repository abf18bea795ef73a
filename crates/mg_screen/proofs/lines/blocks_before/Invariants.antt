use Rattle.std.proofs.Common.{◌≡◌, ◌≤◌, ◌+◌, ◌-◌}
use Rattle.mg_screen.specs.Lines.{column_of}
use Rattle.mg_screen.proofs.lines.blocks_before.Given as goal

abbrev pub invariant-loop-begin : goal.invariant-loop-begin
invariant-loop-begin l = record {
  within : l.begin ≤ l.place;
  same_line : (l.place - l.begin) + column_of l.text l.begin ≡ column_of l.text l.place;
}

abbrev pub decreases-loop-begin : goal.decreases-loop-begin
decreases-loop-begin l = l.begin
