use Rattle.std.proofs.Common.{◌≡◌, ◌≤◌, length}
use Rattle.mgr_mend.specs.Fitting.{note_lines}
use Rattle.mgr_mend.proofs.FittingLemmas.{IsFittedUpTo}
use Rattle.mgr_mend.proofs.fitting.fit_lines.Given as goal

abbrev pub invariant-lines : goal.invariant-lines
invariant-lines l = record {
  sofar : IsFittedUpTo (note_lines l.fn.mended.log.items) l.note.content l.rest l.log.items l.refused.items l.excess;
  limit : l.note.limit ≡ 1000000;
  within : length l.rest ≤ length l.fn.mended.log.items;
}

abbrev pub decreases-lines : goal.decreases-lines
decreases-lines l = length l.rest
