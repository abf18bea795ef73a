use Rattle.std.proofs.Common.{◌≡◌, ◌++◌, take}
use Rattle.rga_tree.specs.Nodes.{ids_where, is_picked}
use Rattle.rga_tree.proofs.operations.push_ids.Given as goal

abbrev pub invariant-loop-i : goal.invariant-loop-i
invariant-loop-i l = l.ids.items ≡ l.initial.ids.items ++ ids_where (is_picked l.marked) (take l.i l.nodes.entries)
