use Rattle.std.proofs.Common.{◌≡◌, ℕ, ◌≤◌, ◌<◌, ◌+◌, ◌-◌, ◌*◌, ◌/◌, ◌%◌, [], length, slice_index_or, sym, ◌∙◌, subst, arith}
use Rattle.std.proofs.Math.Nat.{div-mul-le_self, mod-eq-sub-div-mul}
use Rattle.rga_ops.specs.Identifier.{Identifier}
use Rattle.rga_sequence.specs.declared.groups.TheConstants.{GROUP}
use Rattle.rga_sequence.specs.Blocks.{Blocks, AreFrom}
use Rattle.rga_sequence.proofs.BoundLaws.{larger_by}
use Rattle.rga_sequence.proofs.bounds.is_group_larger.Goals as goal

pub returns-clause-larger : goal.returns-clause-larger
returns-clause-larger c = λ t.
    let bs : Blocks = c.args.blocks.now.items in
    let b : ℕ = c.args.block in
    let bound : Identifier = c.index.result.now in
    let first : b / GROUP * GROUP ≤ b = div-mul-le_self b GROUP in
    let rest : b % GROUP ≡ b - b / GROUP * GROUP = mod-eq-sub-div-mul b GROUP in
    let whole : b / GROUP * GROUP ≡ b = omega (arith, first, rest, c.if-block-ne0.false) in
    let within : b / GROUP < length c.note_bounds.new.bounds.items = subst (λ xs. b / GROUP < length xs) c.as_slice-2.ensures.value (omega (arith, c.if-group-as_slice.false)) in
    larger_by bound c.args.id b (b + GROUP) bs (sym c.is_larger.ensures ∙ t)
    (λ i lo hi. subst (λ m. AreFrom m (slice_index_or bs i [])) (sym c.index.ensures)
    (c.note_bounds.ensures.bounds (b / GROUP) bound within i (omega (arith, whole, lo)) (omega (arith, whole, hi))))
