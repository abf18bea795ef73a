use Rattle.std.proofs.Common.{◌≡◌, ◌≤◌}
use Rattle.mg_plain.specs.LineEnds.{line_begin}
use Rattle.mg_plain.proofs.line_ends.line_begin.Given as goal

abbrev pub invariant-loop-q : goal.invariant-loop-q
invariant-loop-q l = record { same : line_begin l.text l.fn.point ≡ line_begin l.text l.q; within : l.q ≤ l.fn.point }

abbrev pub decreases-loop-q : goal.decreases-loop-q
decreases-loop-q l = l.q
