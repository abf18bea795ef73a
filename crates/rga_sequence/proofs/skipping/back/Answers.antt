use Rattle.std.proofs.Common.{◌≡◌, ◌<◌, ◌-◌, length, slice_index_or, ap, ◌∙◌, subst, arith}
use Rattle.rga_pages.proofs.PartLaws.{place_at}
use Rattle.rga_sequence.proofs.PlaceLaws.{back_before, back_behind}
use Rattle.rga_sequence.proofs.skipping.back.Goals as goal

count : (c : goal.Else-count-index) → c.len-index.result ≡ length (slice_index_or c.args.blocks.now.items (c.args.at.block - 1) c.index.result.now)
count c = c.len-index.ensures.len ∙ ap length c.index.ensures

within : (c : goal.Else-count-index) → c.args.at.block < length c.args.blocks.now.items
within c = subst (λ n. c.args.at.block < n) c.args.blocks.now.ok.0 c.requires.block

pub returns-clause-place : goal.returns-clause-place
returns-clause-place c =
    place_at c.args.blocks.now.items (c.args.at.block - 1) c.len-index.result c.index.result.now (omega (arith, within c)) (omega (arith, count c))

pub returns-clause-before : goal.returns-clause-before
returns-clause-before c =
    back_before c.args.blocks.now.items (c.args.at.block - 1) c.args.at.block c.len-index.result c.args.at.index c.index.result.now
    (omega (arith, c.if-at-eq0.false)) (omega (arith, c.if-at-gt0.false)) (count c) (within c)

pub returns-clause-behind : goal.returns-clause-behind
returns-clause-behind c =
    back_behind c.args.blocks.now.items (c.args.at.block - 1) c.args.at.block c.len-index.result c.args.at.index c.index.result.now
    (omega (arith, c.if-at-eq0.false)) (omega (arith, c.if-at-gt0.false)) (count c) (within c)
