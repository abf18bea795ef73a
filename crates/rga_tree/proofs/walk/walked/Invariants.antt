use Rattle.std.proofs.Common.{◌≡◌, ◌++◌, length, reverse}
use Rattle.rga_ops.specs.Order.{order}
use Rattle.rga_tree.specs.Nodes.{content_of_nodes}
use Rattle.rga_tree.specs.Preceding.{beginning}
use Rattle.rga_tree.proofs.PrecedingLaws.{Stands}
use Rattle.rga_tree.proofs.walk.walked.Given as goal

-- what is still to come, and what is listed turned round, are all
abbrev pub invariant-loop-step : goal.invariant-loop-step
invariant-loop-step l = record {
  stands : Stands (content_of_nodes l.nodes.entries) l.at;
  listed : beginning (content_of_nodes l.nodes.entries) l.at ++ reverse l.order.items ≡ order (content_of_nodes l.nodes.entries);
}

abbrev pub decreases-loop-step : goal.decreases-loop-step
decreases-loop-step l = length (beginning (content_of_nodes l.nodes.entries) l.at)
