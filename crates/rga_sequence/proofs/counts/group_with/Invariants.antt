use Rattle.std.proofs.Common.{◌≡◌, ◌≤◌, ◌+◌, ◌-◌, length, take}
use Rattle.std.specs.Prelude.{sum}
use Rattle.rga_sequence.proofs.counts.group_with.Given as goal

abbrev pub invariant-loop-group : goal.invariant-loop-group
invariant-loop-group l = record {
  within : l.group ≤ length l.counts;
  rest : sum (take l.group l.counts) + l.rest ≡ l.k;
}

abbrev pub decreases-loop-group : goal.decreases-loop-group
decreases-loop-group l = length l.counts - l.group
