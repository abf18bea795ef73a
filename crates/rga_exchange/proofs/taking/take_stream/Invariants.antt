use Rattle.std.proofs.Common.{◌≡◌, ◌+◌, ◌*◌, ◌^◌, ◌≤◌, min, length, false}
use Rattle.rga_exchange.specs.declared.counted.TheConstants.{MAX_CALLS}
use Rattle.rga_exchange.specs.declared.block.TheConstants.{BLOCK}
use Rattle.rga_exchange.specs.Taking.{intake}
use Rattle.rga_exchange.specs.Parts.{stage, HasTakenOfRead}
use Rattle.rga_exchange.proofs.DeletionRunLemmas.{IsTold}
use Rattle.rga_exchange.proofs.taking.take_stream.Given as goal

abbrev pub invariant-reads : goal.invariant-reads
invariant-reads g l = record {
  whole : l.splitter.broken ≡ false;
  room : l.lines + length l.splitter.waiting + BLOCK * min l.reader.left MAX_CALLS ≤ BLOCK * MAX_CALLS;
  limit : g.T.Taker.limit l.taker ≡ g.T.Taker.limit l.fn.taker;
  same_failures : l.reader.failures ≡ l.fn.reader.failures;
  read : HasTakenOfRead l.fn.form g.R.Read.remaining l.fn.reader l.reader (intake g.T.Taker.limit g.T.Taker.content g.T.Taker.follows l.fn.taker l.taker) (stage l.lines l.operations l.splitter.waiting);
  few : l.operations ≤ 2 ^ 64 * l.lines;
  told : IsTold (g.R.Read.remaining l.fn.reader.inner) (g.R.Read.remaining l.reader.inner) l.fn.deletion_runs l.deletion_runs l.splitter.waiting;
}

abbrev pub decreases-reads : goal.decreases-reads
decreases-reads g l = l.reader.left
