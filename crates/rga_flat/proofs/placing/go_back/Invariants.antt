use Rattle.std.proofs.Common.{◌≡◌}
use Rattle.rga_flat.specs.Placing.{taken_out}
use Rattle.rga_flat.proofs.placing.go_back.Given as goal

-- what is left to be taken out leads where all of it does
abbrev pub invariant-loop-last : goal.invariant-loop-last
invariant-loop-last l = record {
  start : taken_out l.placed.items l.sequence ≡ taken_out l.initial.placed.items l.initial.sequence;
}

abbrev pub decreases-loop-last : goal.decreases-loop-last
decreases-loop-last l = goal.left-loop-last l
