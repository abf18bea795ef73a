use Rattle.std.proofs.Common.{◌≡◌, ◌≤◌, ◌<◌, ◌+◌, length, ap, ◌∙◌, subst, slice_index_or}
use Rattle.rga_sequence.proofs.PlaceLaws.{block_within, front_place, on_before, on_behind, at_end, lt_so, le_so}
use Rattle.rga_sequence.proofs.skipping.goes_on.Goals as goal

reached : (c : goal.After-as_slice) → length (slice_index_or c.args.blocks.now.items c.args.block c.index.result.now) ≤ c.args.index
reached c = subst (λ n. n ≤ c.args.index) (c.len.ensures.len ∙ ap length c.index.ensures) c.if-index-len.false

count : (c : goal.After-as_slice) → length c.as_slice.result.now ≡ length c.args.blocks.now.items
count c = ap length c.as_slice.ensures.value

pub returns-clause-front : goal.returns-clause-front
returns-clause-front c = λ t. front_place c.args.blocks.now.items (c.args.block + 1) (subst (λ n. c.args.block + 1 < n) (count c) (lt_so (c.args.block + 1) (length c.as_slice.result.now) t))

pub returns-clause-before : goal.returns-clause-before
returns-clause-before c = λ t. on_before c.args.blocks.now.items c.args.block c.args.index c.index.result.now c.requires.place (reached c) (subst (λ n. c.args.block + 1 < n) (count c) (lt_so (c.args.block + 1) (length c.as_slice.result.now) t))

pub returns-clause-behind : goal.returns-clause-behind
returns-clause-behind c = λ t. on_behind c.args.blocks.now.items c.args.block c.args.index c.index.result.now c.requires.place (reached c) (subst (λ n. c.args.block + 1 < n) (count c) (lt_so (c.args.block + 1) (length c.as_slice.result.now) t))

pub returns-clause-end : goal.returns-clause-end
returns-clause-end c = λ e f stops.
    at_end c.args.blocks.now.items c.args.block c.args.index c.index.result.now e c.requires.place (reached c)
    (block_within c.args.blocks.now.items c.args.block c.args.index c.requires.place)
    (subst (λ n. n ≤ c.args.block + 1) (count c) (le_so (c.args.block + 1) (length c.as_slice.result.now) f))
