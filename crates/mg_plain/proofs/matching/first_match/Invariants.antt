use Rattle.std.proofs.Common.{length, ◌-◌, ◌≡◌, ◌≤◌}
use Rattle.mg_plain.specs.Matches.{first_match}
use Rattle.mg_plain.proofs.matching.first_match.Given as goal

abbrev pub invariant-loop-start : goal.invariant-loop-start
invariant-loop-start l = record { same : first_match l.pattern l.text l.fn.start ≡ first_match l.pattern l.text l.i; behind : l.fn.start ≤ l.i; within : l.i ≤ length l.text }

abbrev pub decreases-loop-start : goal.decreases-loop-start
decreases-loop-start l = length l.text - l.i
