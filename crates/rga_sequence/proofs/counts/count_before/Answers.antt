use Rattle.std.proofs.Common.{◌≡◌, ℕ, ◌+◌, ◌≤◌, ◌<◌, ◌*◌, ◌/◌, List, length, take, ap, ◌∙◌, subst, arith}
use Rattle.std.specs.Prelude.{sum}
use Rattle.std.proofs.Math.Nat.{div-mul-le_self}
use Rattle.rga_sequence.specs.declared.groups.TheConstants.{GROUP}
use Rattle.rga_sequence.specs.Entries.{visible_count}
use Rattle.rga_sequence.specs.Blocks.{Blocks, flat, AreCounts}
use Rattle.rga_sequence.proofs.CountLaws.{count_one_more, count_beginning}
use Rattle.rga_sequence.proofs.GroupLaws.{sum_counts}
use Rattle.rga_sequence.proofs.counts.count_before.Goals as goal

sum_taken : (counts xs : List ℕ) (bs : Blocks) (g : ℕ) → xs ≡ counts → AreCounts counts bs → g ≤ length counts → sum (take g xs) ≡ visible_count (flat (take (g * GROUP) bs))
sum_taken counts xs bs g same all w = ap (λ ys. sum (take g ys)) same ∙ sum_counts counts bs g all w

pub sum_of-count-requires : goal.sum_of-count-requires
sum_of-count-requires c =
    let within : c.min-groups.result ≤ length c.args.counts.now.items = subst (λ xs. c.min-groups.result ≤ length xs) c.as_slice.ensures.value (omega (arith, c.min-groups.ensures)) in
    omega (arith, sum_taken c.args.counts.now.items c.as_slice-2.result.now c.args.blocks.now.items c.min-groups.result c.as_slice-2.ensures.value c.requires.counts within, count_beginning c.args.blocks.now.items (c.min-groups.result * GROUP), c.requires.fits)

pub loop-next-init : goal.loop-next-init
loop-next-init c =
    let within : c.min-groups.result ≤ length c.args.counts.now.items = subst (λ xs. c.min-groups.result ≤ length xs) c.as_slice.ensures.value (omega (arith, c.min-groups.ensures)) in
    let first : c.args.block / GROUP * GROUP ≤ c.args.block = div-mul-le_self c.args.block GROUP in
    (omega (arith, first, c.min-groups.ensures), c.sum_of-count.ensures ∙ sum_taken c.args.counts.now.items c.as_slice-2.result.now c.args.blocks.now.items c.min-groups.result c.as_slice-2.ensures.value c.requires.counts within)

more : (c : goal.After-visible_len-count) → c.loop-next.count + c.visible_len-count.result ≡ visible_count (flat (take (c.loop-next.next + 1) c.args.blocks.now.items))
more c =
    let bs : Blocks = c.args.blocks.now.items in
    let within : c.loop-next.next < length bs = subst (λ n. c.loop-next.next < n) c.args.blocks.now.ok.0 (omega (arith, c.loop-next-test.true, c.requires.within)) in
    omega (arith, count_one_more bs c.loop-next.next c.index.result.now within c.index.ensures, c.visible_len-count.ensures.count, c.loop-next.invariant.1)

pub overflow_add-count : goal.overflow_add-count
overflow_add-count c = omega (arith, more c, count_beginning c.args.blocks.now.items (c.loop-next.next + 1), c.requires.fits)

pub loop-next-preserved : goal.loop-next-preserved
loop-next-preserved c = (omega (arith, c.loop-next-test.true), more c)
