use Rattle.std.proofs.Common.{◌≡◌, is_some}
use Rattle.rga_ops.specs.RootPath.{root_path}
use Rattle.rga_tree.specs.Nodes.{content_of_nodes}
use Rattle.rga_tree.proofs.counting_back.reaches_root.Given as goal

-- an element has a root path where its parent has one
abbrev pub invariant-loop-child : goal.invariant-loop-child
invariant-loop-child l = is_some (root_path (content_of_nodes l.nodes.entries) l.at) ≡ is_some (root_path (content_of_nodes l.nodes.entries) l.fn.id)

abbrev pub decreases-loop-child : goal.decreases-loop-child
decreases-loop-child l = l.at.counter
