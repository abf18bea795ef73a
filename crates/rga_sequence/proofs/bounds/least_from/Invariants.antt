use Rattle.std.proofs.Common.{◌≤◌, ◌<◌, ◌+◌, ◌-◌}
use Rattle.std.specs.Prelude.{vec_len}
use Rattle.rga_sequence.specs.declared.groups.TheConstants.{GROUP}
use Rattle.rga_sequence.specs.Blocks.{AreBlocksFrom}
use Rattle.rga_sequence.proofs.bounds.least_from.Given as goal

abbrev pub invariant-loop-block : goal.invariant-loop-block
invariant-loop-block l = record {
  behind : l.from < l.block;
  within : l.block ≤ l.from + GROUP;
  blocks : l.block ≤ vec_len l.blocks;
  least : AreBlocksFrom l.least l.from l.block l.blocks.items;
}

abbrev pub decreases-loop-block : goal.decreases-loop-block
decreases-loop-block l = vec_len l.blocks - l.block
