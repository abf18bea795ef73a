use Rattle.std.proofs.Common.{◌<◌, ◌+◌, ◌∙◌, subst, arith}
use Rattle.rga_sequence.specs.declared.groups.TheConstants.{GROUP}
use Rattle.rga_sequence.proofs.BoundLaws.{pass_blocks}
use Rattle.rga_sequence.proofs.bounds.past_groups.Goals as goal

pub loop-block-preserved : goal.loop-block-preserved
loop-block-preserved c = record {
  bounds = c.is_group_larger.ensures.bounds;
  on = omega (arith, c.loop-block.invariant.on);
  within = c.is_group_larger.ensures.next c.loop-block-test.true;
  past = c.loop-block.invariant.past ∙ pass_blocks c.args.blocks.now.items c.loop-block.block GROUP c.args.entry.now
      (subst (λ n. c.loop-block.block + GROUP < n) c.args.blocks.now.ok.0 (c.is_group_larger.ensures.next c.loop-block-test.true)) (c.is_group_larger.ensures.larger c.loop-block-test.true);
}
