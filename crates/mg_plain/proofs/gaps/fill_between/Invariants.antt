use Rattle.std.proofs.Common.{◌-◌}
use Rattle.mg_plain.proofs.GapLaws.{Filling}
use Rattle.mg_plain.proofs.gaps.fill_between.Given as goal

abbrev pub invariant-loop-begin : goal.invariant-loop-begin
invariant-loop-begin l = Filling l.fn.column l.text l.fn.lo l.hi l.splices.items l.used l.at

abbrev pub decreases-loop-begin : goal.decreases-loop-begin
decreases-loop-begin l = l.hi - l.at
