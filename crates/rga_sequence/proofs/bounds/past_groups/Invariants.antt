use Rattle.std.proofs.Common.{◌≤◌, ◌<◌, ◌-◌}
use Rattle.std.specs.Prelude.{vec_len}
use Rattle.rga_sequence.specs.Blocks.{AreBounds, Passes}
use Rattle.rga_sequence.proofs.bounds.past_groups.Given as goal

abbrev pub invariant-loop-block : goal.invariant-loop-block
invariant-loop-block l = record {
  bounds : AreBounds l.bounds.items l.blocks.items;
  on : l.from ≤ l.block;
  within : l.block < vec_len l.blocks;
  past : Passes l.blocks.items l.from 0 l.block 0 l.entry;
}

abbrev pub decreases-loop-block : goal.decreases-loop-block
decreases-loop-block l = vec_len l.blocks - l.block
