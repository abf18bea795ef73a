use Rattle.std.proofs.Common.{ℕ, ◌≤◌, ◌<◌, ◌+◌, [], length, slice_index_or, sym, ◌∙◌, subst, arith}
use Rattle.std.proofs.lemmas.List.{get_or_default}
use Rattle.rga_sequence.specs.Blocks.{Blocks, AreFrom}
use Rattle.rga_sequence.proofs.BoundLaws.{blocks_more}
use Rattle.rga_sequence.proofs.bounds.least_from.Goals as goal

pub loop-block-preserved : goal.loop-block-preserved
loop-block-preserved c =
    let bs : Blocks = c.args.blocks.now.items in
    let b : ℕ = c.loop-block.block in
    let within : b < length bs = subst (λ xs. b < length xs) c.as_slice.ensures.value c.loop-block-test.true in
    let from : AreFrom c.least.result (slice_index_or bs b []) = subst (AreFrom c.least.result) (c.index-in-loop-block.ensures ∙ get_or_default bs b c.index-in-loop-block.result.now [] within) c.least.ensures in
    record {
      behind = omega (arith, c.loop-block.invariant.behind);
      within = omega (arith, c.loop-block.invariant.behind, c.if-block-from-lt-GROUP.true);
      blocks = subst (λ n. b + 1 ≤ n) (sym c.args.blocks.now.ok.0) (omega (arith, within));
      least = blocks_more c.loop-block.least c.lesser-least.result c.least.result c.args.from b bs c.lesser-least.ensures.first c.lesser-least.ensures.second from c.loop-block.invariant.least;
    }
