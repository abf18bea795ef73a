use Rattle.std.proofs.Common.{◌≡◌, ◌≤◌, ◌+◌, length, take, sym, ap, ◌∙◌, subst, arith}
use Rattle.rga_sequence.specs.declared.groups.TheConstants.{GROUP}
use Rattle.rga_sequence.specs.Blocks.{Blocks, flat}
use Rattle.rga_sequence.specs.Entries.{visible_count}
use Rattle.rga_sequence.proofs.CountLaws.{count_one_more}
use Rattle.rga_sequence.proofs.GroupLaws.{is_count}
use Rattle.rga_sequence.proofs.counts.count_group.Goals as goal

pub loop-block-preserved : goal.loop-block-preserved
loop-block-preserved c =
    let bs : Blocks = c.args.blocks.now.items in
    let room : c.args.from + GROUP ≤ length bs = subst (λ n. c.args.from + GROUP ≤ n) c.args.blocks.now.ok.0 c.requires in
    let more : visible_count (flat (take (c.loop-block.block + 1) bs)) ≡ visible_count (flat (take c.loop-block.block bs)) + visible_count c.index.result.now =
    count_one_more bs c.loop-block.block c.index.result.now (omega (arith, room, c.loop-block-test.true)) c.index.ensures in
    record {
      behind = omega (arith, c.loop-block.invariant.behind);
      within = omega (arith, c.loop-block-test.true);
      most = omega (arith, c.loop-block.invariant.behind, c.loop-block.invariant.most, c.visible_len-count.ensures.most);
      counted = omega (arith, more, c.loop-block.invariant.counted, c.visible_len-count.ensures.count);
    }

pub returns : goal.returns
returns c =
    let bs : Blocks = c.args.blocks.now.items in
    let end : c.loop-block.block ≡ c.args.from + GROUP = omega (arith, c.loop-block-test.false, c.loop-block.invariant.within) in
    is_count bs c.loop-block.count c.args.from (c.args.from + GROUP) (omega arith)
    (ap (λ n. visible_count (flat (take n bs))) (sym end) ∙ c.loop-block.invariant.counted)
