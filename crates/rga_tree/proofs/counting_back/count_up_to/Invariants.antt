use Rattle.std.proofs.Common.{◌≡◌, ◌+◌, length}
use Rattle.rga_tree.specs.Nodes.{content_of_nodes}
use Rattle.rga_tree.specs.Preceding.{beginning, visible_up_to}
use Rattle.rga_tree.proofs.PrecedingLaws.{Stands}
use Rattle.rga_tree.proofs.counting_back.count_up_to.Given as goal

-- what was passed and what is still to come are all
abbrev pub invariant-loop-step : goal.invariant-loop-step
invariant-loop-step l = record {
  stands : Stands (content_of_nodes l.nodes.entries) l.at;
  counted : l.count + length (visible_up_to (content_of_nodes l.nodes.entries) l.at) ≡ length (visible_up_to (content_of_nodes l.nodes.entries) l.fn.id);
}

abbrev pub decreases-loop-step : goal.decreases-loop-step
decreases-loop-step l = length (beginning (content_of_nodes l.nodes.entries) l.at)
