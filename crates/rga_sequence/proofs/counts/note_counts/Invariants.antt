use Rattle.std.proofs.Common.{◌-◌, length}
use Rattle.rga_sequence.specs.Blocks.{AreCounts}
use Rattle.rga_sequence.proofs.counts.note_counts.Given as goal

abbrev pub invariant-loop-counts : goal.invariant-loop-counts
invariant-loop-counts l = AreCounts l.counts.items l.blocks.items

abbrev pub decreases-loop-counts : goal.decreases-loop-counts
decreases-loop-counts l = length l.blocks.items - length l.counts.items
