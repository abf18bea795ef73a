use Rattle.std.proofs.Common.{◌≡◌, ◌≤◌, ◌+◌, ◌-◌, drop, length}
use Rattle.std.specs.List.{position_or_len}
use Rattle.mg_screen.specs.Lines.{ends_line}
use Rattle.mg_screen.proofs.lines.blocks_behind.Given as goal

abbrev pub invariant-loop-end : goal.invariant-loop-end
invariant-loop-end l = record {
  within : l.end ≤ length l.text;
  same_line : l.end + position_or_len ends_line (drop l.end l.text) ≡ l.place + position_or_len ends_line (drop l.place l.text);
}

abbrev pub decreases-loop-end : goal.decreases-loop-end
decreases-loop-end l = length l.text - l.end
