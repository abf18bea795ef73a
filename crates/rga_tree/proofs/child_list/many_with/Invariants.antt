use Rattle.std.proofs.Common.{◌≡◌, take}
use Rattle.rga_ops.specs.Identifier.{Identifier}
use Rattle.rga_tree.specs.Children.{has_child}
use Rattle.rga_tree.proofs.child_list.many_with.Given as goal

-- the children that were passed are in the tree
abbrev pub invariant-loop-child : goal.invariant-loop-child
invariant-loop-child l = (k : Identifier) → has_child l.set.keys k ≡ has_child (take l.child-index l.few) k
