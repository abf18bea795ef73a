use Rattle.std.proofs.Common.{◌≡◌, ◌≤◌, ◌+◌, ◌-◌, ◌*◌, take}
use Rattle.rga_sequence.specs.declared.block.TheConstants.{MOST}
use Rattle.rga_sequence.specs.declared.groups.TheConstants.{GROUP}
use Rattle.rga_sequence.specs.Entries.{visible_count}
use Rattle.rga_sequence.specs.Blocks.{flat}
use Rattle.rga_sequence.proofs.counts.count_group.Given as goal

abbrev pub invariant-loop-block : goal.invariant-loop-block
invariant-loop-block l = record {
  behind : l.from ≤ l.block;
  within : l.block ≤ l.from + GROUP;
  most : l.count ≤ (l.block - l.from) * MOST;
  counted : visible_count (flat (take l.block l.blocks.items)) ≡ visible_count (flat (take l.from l.blocks.items)) + l.count;
}

abbrev pub decreases-loop-block : goal.decreases-loop-block
decreases-loop-block l = l.from + GROUP - l.block
