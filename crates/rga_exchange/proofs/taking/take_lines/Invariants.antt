use Rattle.std.proofs.Common.{◌≡◌, ◌+◌, ◌*◌, ◌^◌, ◌≤◌, ◌||◌, ◌++◌, ℕ, List, length, false}
use Rattle.rga_exchange.specs.DeletionRuns.{has_deletion_runs}
use Rattle.rga_exchange.specs.Taking.{intake}
use Rattle.rga_exchange.specs.Parts.{stage, TakesUpTo}
use Rattle.rga_exchange.proofs.taking.take_lines.Given as goal

abbrev pub invariant-lines : goal.invariant-lines
invariant-lines g l = record {
  whole : l.splitter.broken ≡ false;
  room : l.lines + length l.splitter.waiting ≤ l.fn.lines + length l.fn.splitter.waiting;
  limit : g.T.Taker.limit l.taker ≡ g.T.Taker.limit l.fn.taker;
  few : l.operations ≤ 2 ^ 64 * l.lines;
  up_to : TakesUpTo l.fn.form (intake g.T.Taker.limit g.T.Taker.content g.T.Taker.follows l.fn.taker l.taker) (stage l.fn.lines l.fn.operations l.fn.splitter.waiting) (stage l.lines l.operations l.splitter.waiting);
  told : (more : List ℕ) → (l.fn.deletion_runs || has_deletion_runs (l.fn.splitter.waiting ++ more)) ≡ (l.deletion_runs || has_deletion_runs (l.splitter.waiting ++ more));
}

abbrev pub decreases-lines : goal.decreases-lines
decreases-lines g l = length l.splitter.waiting
