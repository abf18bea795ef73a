use Rattle.std.proofs.Common.{length, ◌-◌, ◌≡◌, ◌≤◌}
use Rattle.mg_plain.specs.LineEnds.{line_end}
use Rattle.mg_plain.proofs.line_ends.line_end.Given as goal

abbrev pub invariant-loop-q : goal.invariant-loop-q
invariant-loop-q l = record { same : line_end l.text l.fn.point ≡ line_end l.text l.q; behind : l.fn.point ≤ l.q; within : l.q ≤ length l.text }

abbrev pub decreases-loop-q : goal.decreases-loop-q
decreases-loop-q l = length l.text - l.q
