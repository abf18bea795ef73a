use Rattle.std.proofs.Common.{◌≡◌, ◌++◌, take, drop}
use Rattle.rga_sequence.specs.Blocks.{flat}
use Rattle.rga_sequence.specs.Entries.{visible_ids}
use Rattle.rga_sequence.proofs.listing.push_elements.Given as goal

abbrev pub invariant-loop-block : goal.invariant-loop-block
invariant-loop-block l =
    l.list.items ++ drop l.skip (take l.end (visible_ids (flat (drop l.block-index l.blocks))))
    ≡ l.fn.list.items ++ drop l.lo (take l.hi (visible_ids (flat l.blocks)))
