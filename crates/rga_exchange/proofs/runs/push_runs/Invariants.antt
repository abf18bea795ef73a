use Rattle.std.proofs.Common.{◌≡◌, ◌++◌, length}
use Rattle.rga_exchange.specs.Counting.{WritesAllBut}
use Rattle.rga_exchange.specs.RunLines.{runs_text}
use Rattle.rga_exchange.proofs.runs.push_runs.Given as goal

abbrev pub invariant-lines : goal.invariant-lines
invariant-lines g l = record {
  begun : WritesAllBut g.W.Write.contents l.initial.writer l.writer (l.initial.block ++ runs_text l.ops) (l.block ++ runs_text l.rest);
  unfailed : l.writer.failures ≡ l.initial.writer.failures;
}

abbrev pub decreases-lines : goal.decreases-lines
decreases-lines g l = length l.rest
