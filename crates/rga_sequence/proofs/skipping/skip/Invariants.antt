use Rattle.std.proofs.Common.{◌-◌}
use Rattle.std.specs.Prelude.{vec_len, ◌<◌}
use Rattle.rga_sequence.specs.Blocks.{IsPlace, Passes, Stops, AreBounds}
use Rattle.rga_sequence.proofs.skipping.skip.Given as goal

abbrev pub invariant-loop-index : goal.invariant-loop-index
invariant-loop-index l = record {
  within : l.block < vec_len l.blocks;
  place : IsPlace l.blocks.items l.block l.index;
  stops : Stops l.blocks.items l.block l.index l.entry;
  past : Passes l.fn.blocks.items l.fn.from.block l.fn.from.index l.block l.index l.entry;
  bounds : AreBounds l.bounds.items l.blocks.items;
}

abbrev pub decreases-loop-index : goal.decreases-loop-index
decreases-loop-index l = vec_len l.blocks - l.block
