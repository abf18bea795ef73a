use Rattle.std.proofs.Common.{◌<◌, subst}
use Rattle.rga_sequence.proofs.PlaceLaws.{front_place}
use Rattle.rga_sequence.proofs.skipping.skip.Goals as goal

pub past_in_block-index-requires-in-loop-index-clause-place :
    goal.past_in_block-index-requires-in-loop-index-clause-place
past_in_block-index-requires-in-loop-index-clause-place c =
    front_place c.args.blocks.now.items c.past_groups-block.result (subst (λ n. c.past_groups-block.result < n) c.args.blocks.now.ok.0 c.past_groups-block.ensures.block)
