use Rattle.std.proofs.Common.{◌≡◌, ◌++◌, map, take}
use Rattle.rga_ops.specs.declared.op.Op.TheVariants.{Delete}
use Rattle.rga_tree.proofs.operations.push_deletions.Given as goal

abbrev pub invariant-loop-id : goal.invariant-loop-id
invariant-loop-id l = l.ops.items ≡ l.initial.ops.items ++ map Delete (take l.id-index l.ids)
