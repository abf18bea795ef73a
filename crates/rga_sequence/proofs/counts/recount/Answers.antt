use Rattle.std.proofs.Common.{◌≡◌, ℕ, ◌+◌, ◌≤◌, ◌<◌, ◌*◌, ◌/◌, List, length, take, slice_index_or, sym, subst, arith}
use Rattle.std.specs.Prelude.{slice_set, []}
use Rattle.std.proofs.Math.Nat.{div-mul-le_self, lt-div-mul-add}
use Rattle.rga_sequence.specs.declared.groups.TheConstants.{GROUP}
use Rattle.rga_sequence.specs.Entries.{visible_count}
use Rattle.rga_sequence.specs.Blocks.{AreCounts}
use Rattle.rga_sequence.proofs.GroupLaws.{taken_early, counts_taken, counts_aside, counts_set, count_of_block}
use Rattle.rga_sequence.proofs.counts.recount.Goals as goal

pub returns-then-group-as_slice : goal.returns-then-group-as_slice
returns-then-group-as_slice c = λ bs b all before now.
    let first : c.args.block / GROUP * GROUP ≤ c.args.block = div-mul-le_self c.args.block GROUP in
    let past : length c.args.counts.now.items ≤ c.args.block / GROUP = subst (λ xs. length xs ≤ c.args.block / GROUP) c.as_slice.ensures.value c.if-group-as_slice.true in
    counts_aside c.args.counts.now.items bs c.args.block b all (omega (arith, first, past))

pub returns-in-None : goal.returns-in-None
returns-in-None c = λ bs b all before now.
    let n : ℕ = c.args.block / GROUP in
    subst (λ xs. AreCounts xs (slice_set bs c.args.block b)) (sym c.truncate.ensures.items)
    (counts_aside (take n c.args.counts.now.items) bs c.args.block b (counts_taken n c.args.counts.now.items bs all) (taken_early n c.args.block c.args.counts.now.items (div-mul-le_self c.args.block GROUP)))

pub returns-in-Some : goal.returns-in-Some
returns-in-Some c = λ bs b all before now.
    let counts : List ℕ = c.args.counts.now.items in
    let g : ℕ = c.args.block / GROUP in
    let within : g < length counts = subst (λ xs. g < length xs) c.as_slice.ensures.value c.if-group-as_slice.false in
    let first : g * GROUP ≤ c.args.block = div-mul-le_self c.args.block GROUP in
    let last : c.args.block < g * GROUP + GROUP = lt-div-mul-add {a = c.args.block} {b = GROUP} (omega arith) in
    let most : visible_count (slice_index_or bs c.args.block []) ≤ slice_index_or counts g c.index.result.now = count_of_block counts bs c.args.block g c.index.result.now all within first last in
    let sum : c.in-Some.count ≡ c.saturating_sub-others.result + c.args.now = c.in-Some.ensures.1 in
    counts_set counts bs c.args.block g c.in-Some.count c.index.result.now b all within first last
    (omega (arith, most, sum, before, now, c.index.ensures, c.saturating_sub-others.ensures))
