use Rattle.std.proofs.Common.{◌≡◌, ◌+◌, ◌≤◌, ◌++◌, length, drop, slice_index}
use Rattle.rga_exchange.specs.Counting.{WritesAllBut}
use Rattle.rga_ops.specs.Content.{content_of}
use Rattle.rga_lines.specs.Stream.{bytes_of_lines}
use Rattle.rga_exchange.specs.Compacting.{compact_lines, compact_text}
use Rattle.rga_exchange.specs.Turns.{lines_from}
use Rattle.rga_exchange.proofs.compacting.push_compacted.Given as goal

abbrev pub invariant-loop-index : goal.invariant-loop-index
invariant-loop-index g l = record {
  begun : WritesAllBut g.W.Write.contents l.initial.writer l.writer
      (l.initial.block ++ compact_text l.dels (content_of l.ops))
      (l.block ++ bytes_of_lines (lines_from (content_of l.ops) l.most (slice_index l.ends) (slice_index l.deleted) (drop l.index l.ops)));
  number : l.lines + length (lines_from (content_of l.ops) l.most (slice_index l.ends) (slice_index l.deleted) (drop l.index l.ops)) ≡ length (compact_lines l.dels (content_of l.ops));
  few : l.lines ≤ l.index;
  unfailed : l.writer.failures ≡ l.initial.writer.failures;
}
