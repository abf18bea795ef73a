use Rattle.std.proofs.Common.{◌≡◌, ◌++◌, drop}
use Rattle.rga_sequence.specs.Blocks.{flat}
use Rattle.rga_sequence.specs.Entries.{ids}
use Rattle.rga_sequence.proofs.listing.list_ids.Given as goal

abbrev pub invariant-loop-block : goal.invariant-loop-block
invariant-loop-block l = l.list.items ++ ids (flat (drop l.block-index l.blocks.items)) ≡ ids (flat l.blocks.items)
