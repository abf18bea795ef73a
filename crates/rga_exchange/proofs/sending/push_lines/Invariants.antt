use Rattle.std.specs.Prelude.{All}
use Rattle.std.proofs.Common.{◌≡◌, ◌++◌, drop, take}
use Rattle.rga_exchange.specs.Counting.{WritesAllBut}
use Rattle.rga_exchange.proofs.WritableLaws.{MayBeWritten}
use Rattle.rga_exchange.specs.Sending.{log_text}
use Rattle.rga_exchange.proofs.sending.push_lines.Given as goal

abbrev pub invariant-loop-op : goal.invariant-loop-op
invariant-loop-op g l = record {
  begun : WritesAllBut g.W.Write.contents l.initial.writer l.writer (l.initial.block ++ log_text l.ops) (l.block ++ log_text (drop l.op-index l.ops));
  writable : All MayBeWritten (take l.op-index l.ops);
  unfailed : l.writer.failures ≡ l.initial.writer.failures;
}
