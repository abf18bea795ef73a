use Rattle.std.proofs.Common.{◌≡◌, drop}
use Rattle.rga_tree.specs.Children.{next_newer}
use Rattle.rga_tree.proofs.child_list.next_among_few.Given as goal

-- what is left has the same answer as the whole list
abbrev pub invariant-loop-child : goal.invariant-loop-child
invariant-loop-child l = next_newer l.id (drop l.child-index l.few) ≡ next_newer l.initial.id l.initial.few
