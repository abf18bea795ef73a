use Rattle.std.proofs.Common.{◌≡◌, drop}
use Rattle.std.specs.List.{slice_get}
use Rattle.rga_sequence.specs.Blocks.{flat}
use Rattle.rga_sequence.specs.Entries.{visible_ids}
use Rattle.rga_sequence.proofs.listing.element_in.Given as goal

abbrev pub invariant-loop-block : goal.invariant-loop-block
invariant-loop-block l = slice_get (visible_ids (flat (drop l.block-index l.blocks))) l.left ≡ slice_get (visible_ids (flat l.blocks)) l.k
