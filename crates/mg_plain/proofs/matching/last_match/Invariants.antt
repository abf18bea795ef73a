use Rattle.std.proofs.Common.{length, ◌≡◌, ◌≤◌}
use Rattle.mg_plain.specs.Matches.{last_match}
use Rattle.mg_plain.proofs.matching.last_match.Given as goal

abbrev pub invariant-loop-start : goal.invariant-loop-start
invariant-loop-start l = record { same : last_match l.pattern l.text l.fn.start ≡ last_match l.pattern l.text l.i; within : l.i ≤ length l.text }

abbrev pub decreases-loop-start : goal.decreases-loop-start
decreases-loop-start l = l.i
