use Rattle.std.proofs.Common.{◌≡◌, ◌++◌, take}
use Rattle.std.specs.List.{filter_map}
use Rattle.rga_ops.specs.Operations.{insertion_at}
use Rattle.rga_tree.specs.Nodes.{content_of_nodes}
use Rattle.rga_tree.proofs.operations.push_insertions.Given as goal

abbrev pub invariant-loop-id : goal.invariant-loop-id
invariant-loop-id l = l.ops.items ≡ l.initial.ops.items ++ filter_map (insertion_at (content_of_nodes l.nodes.entries)) (take l.id-index l.ids)
