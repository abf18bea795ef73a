use Rattle.std.proofs.Common.{◌<◌, length, [], subst, refl}
use Rattle.rga_sequence.proofs.StandLaws.{none_one_more}
use Rattle.rga_sequence.proofs.finding.find_in_all.Goals as goal

pub loop-block-preserved : goal.loop-block-preserved
loop-block-preserved c =
    none_one_more c.args.id c.args.blocks.now.items c.loop-block.block [] (subst (λ xs. c.loop-block.block < length xs) c.as_slice.ensures.value c.loop-block-test.true) c.loop-block.invariant (c.in_default.ensures.none refl)
