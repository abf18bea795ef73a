use Rattle.std.proofs.Common.{◌-◌, ◌≤◌, length}
use Rattle.rga_exchange.specs.Finding.{AreBelowUpTo}
use Rattle.rga_exchange.proofs.finding.place_from.Given as goal

abbrev pub invariant-loop-low : goal.invariant-loop-low
invariant-loop-low l = record {
  below : AreBelowUpTo l.deletion l.id l.ops l.low;
  from : l.first ≤ l.low;
  ahead : l.low ≤ l.high;
}

abbrev pub decreases-loop-low : goal.decreases-loop-low
decreases-loop-low l = length l.ops - l.high
