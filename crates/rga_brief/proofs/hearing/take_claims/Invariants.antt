use Rattle.rga_brief.proofs.Prelude.{◌≡◌, ℕ, List, ◌++◌, length, false, bytes_heard}
use Rattle.rga_brief.proofs.hearing.take_claims.Given as goal

abbrev pub invariant-lines : goal.invariant-lines
invariant-lines l = record {
  whole : l.splitter.broken ≡ false;
  same : (more : List ℕ) → bytes_heard l.fn.claims.items (l.fn.splitter.waiting ++ more) ≡ bytes_heard l.claims.items (l.splitter.waiting ++ more);
}

abbrev pub decreases-lines : goal.decreases-lines
decreases-lines l = length l.splitter.waiting
