use Rattle.std.proofs.Common.{◌+◌, ◌-◌, length}
use Rattle.rga_sequence.specs.Blocks.{AreBounds}
use Rattle.rga_sequence.proofs.bounds.note_bounds.Given as goal

abbrev pub invariant-loop-bounds : goal.invariant-loop-bounds
invariant-loop-bounds l = AreBounds l.bounds.items l.blocks.items

abbrev pub decreases-loop-bounds : goal.decreases-loop-bounds
decreases-loop-bounds l = l.group + 1 - length l.bounds.items
