use Rattle.std.proofs.Common.{◌≡◌, ◌+◌, drop, length}
use Rattle.rga_sequence.specs.Blocks.{flat}
use Rattle.rga_sequence.proofs.listing.len.Given as goal

abbrev pub invariant-loop-block : goal.invariant-loop-block
invariant-loop-block l = l.count + length (flat (drop l.block-index l.blocks.items)) ≡ length (flat l.blocks.items)
