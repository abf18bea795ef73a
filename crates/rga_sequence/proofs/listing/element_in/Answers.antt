use Rattle.std.proofs.Common.{◌-◌, ◌<◌, sym, ◌∙◌, subst, arith}
use Rattle.rga_sequence.specs.Blocks.{Blocks}
use Rattle.rga_sequence.proofs.CountLaws.{element_here, element_later}
use Rattle.rga_sequence.proofs.listing.element_in.Goals as goal

pub returns-then-left-count : goal.returns-then-left-count
returns-then-left-count c =
    let bs : Blocks = c.args.blocks.now in
    c.visible_at.ensures
    ∙ sym (element_here bs c.loop-block.block-index c.loop-block.left c.block-item.result c.loop-block-test.true c.block-item.is (subst (λ n. c.loop-block.left < n) c.visible_len-count.ensures.count c.if-left-count.true))
    ∙ c.loop-block.invariant

pub loop-block-preserved : goal.loop-block-preserved
loop-block-preserved c =
    let bs : Blocks = c.args.blocks.now in
    element_later bs c.loop-block.block-index c.loop-block.left (c.loop-block.left - c.visible_len-count.result) c.block-item.result c.loop-block-test.true c.block-item.is (omega (arith, c.visible_len-count.ensures.count, c.if-left-count.false))
    ∙ c.loop-block.invariant
