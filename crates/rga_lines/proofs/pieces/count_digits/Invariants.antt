use Rattle.std.proofs.Common.{◌≡◌, ◌+◌, ◌≤◌, length, decimal}
use Rattle.rga_lines.proofs.pieces.count_digits.Given as goal

abbrev pub invariant-fours : goal.invariant-fours
invariant-fours l = record {
  counted : l.count + length (decimal l.rest) ≡ length (decimal l.fn.number);
  within : l.rest ≤ l.fn.number;
}

abbrev pub decreases-fours : goal.decreases-fours
decreases-fours l = l.rest
