use Rattle.rga_brief.proofs.Prelude.{◌≡◌, false, HasHeard}
use Rattle.rga_brief.proofs.hearing.hear_summary.Given as goal

abbrev pub invariant-reads : goal.invariant-reads
invariant-reads g l = record {
  whole : l.splitter.broken ≡ false;
  same_failures : l.reader.failures ≡ l.fn.reader.failures;
  heard : HasHeard g.R.Read.remaining l.fn.reader l.reader l.claims.items l.splitter.waiting;
}

abbrev pub decreases-reads : goal.decreases-reads
decreases-reads g l = l.reader.left
