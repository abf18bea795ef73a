use Rattle.std.proofs.Common.{◌≡◌, ◌<◌, ◌/◌, length, subst, arith, false}
use Rattle.std.specs.Ordering.{is_gt}
use Rattle.std.proofs.Math.Nat.{div-mul-le_self, lt-div-mul-add}
use Rattle.rga_ops.specs.Identifier.{id_cmp}
use Rattle.rga_sequence.specs.declared.groups.TheConstants.{GROUP}
use Rattle.rga_sequence.proofs.BoundLaws.{bounds_lowered, is_low}
use Rattle.rga_sequence.proofs.bounds.lower.Goals as goal

pub returns-then-group-as_slice-clause-kept : goal.returns-then-group-as_slice-clause-kept
returns-then-group-as_slice-clause-kept c = λ bs all.
    bounds_lowered c.args.bounds.now.items (c.args.block / GROUP) c.lesser.result c.index.result.now bs
    (subst (λ m. is_gt (id_cmp c.lesser.result m) ≡ false) c.index.ensures c.lesser.ensures.first) all

pub returns-then-group-as_slice-clause-low : goal.returns-then-group-as_slice-clause-low
returns-then-group-as_slice-clause-low c =
    is_low c.args.bounds.now.items (c.args.block / GROUP) c.args.block c.lesser.result c.args.id
    (div-mul-le_self c.args.block GROUP) (lt-div-mul-add {a = c.args.block} {b = GROUP} (omega arith))
    (subst (λ xs. c.args.block / GROUP < length xs) c.as_slice.ensures.value c.if-group-as_slice.true) c.lesser.ensures.second
