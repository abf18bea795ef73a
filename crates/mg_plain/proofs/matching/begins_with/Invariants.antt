use Rattle.std.proofs.Common.{drop, length, ◌-◌, ◌≡◌, ◌≤◌}
use Rattle.mg_plain.specs.Matches.{begins_with}
use Rattle.mg_plain.proofs.matching.begins_with.Given as goal

abbrev pub invariant-loop-k : goal.invariant-loop-k
invariant-loop-k l = record { same : begins_with l.pattern l.text ≡ begins_with (drop l.k l.pattern) (drop l.k l.text); within : l.k ≤ length l.text; inside : l.k ≤ length l.pattern }

abbrev pub decreases-loop-k : goal.decreases-loop-k
decreases-loop-k l = length l.pattern - l.k
