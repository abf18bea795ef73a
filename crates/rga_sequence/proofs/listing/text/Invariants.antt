use Rattle.std.proofs.Common.{◌≡◌, ◌++◌, drop}
use Rattle.rga_sequence.specs.Blocks.{flat}
use Rattle.rga_sequence.specs.Entries.{visible_text}
use Rattle.rga_sequence.proofs.listing.text.Given as goal

abbrev pub invariant-loop-block : goal.invariant-loop-block
invariant-loop-block l = l.chars.items ++ visible_text (flat (drop l.block-index l.blocks.items)) ≡ visible_text (flat l.blocks.items)
