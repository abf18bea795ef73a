use Rattle.std.proofs.Common.{◌≤◌, length}
use Rattle.mgr_mend.proofs.MendedLemmas.{IsLeft, IsMendedUpTo}
use Rattle.mgr_mend.proofs.mended.mend_lines.Given as goal

abbrev pub invariant-lines : goal.invariant-lines
invariant-lines l = record {
  left : IsLeft l.fn.bytes l.rest l.later_counts l.later;
  sofar : IsMendedUpTo l.fn.bytes l.rest l.log.items l.refused.items l.faulty l.beaten;
  within : length l.rest ≤ length l.fn.bytes;
}

abbrev pub decreases-lines : goal.decreases-lines
decreases-lines l = length l.rest
