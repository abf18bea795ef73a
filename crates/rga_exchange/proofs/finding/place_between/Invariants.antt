use Rattle.std.proofs.Common.{◌-◌}
use Rattle.rga_exchange.specs.Finding.{AreBelowUpTo, AreNotBelowFrom}
use Rattle.rga_exchange.proofs.finding.place_between.Given as goal

abbrev pub invariant-loop-low : goal.invariant-loop-low
invariant-loop-low l = record {
  below : AreBelowUpTo l.deletion l.id l.ops l.low;
  behind : AreNotBelowFrom l.deletion l.id l.ops l.high;
}

abbrev pub decreases-loop-low : goal.decreases-loop-low
decreases-loop-low l = l.high - l.low
