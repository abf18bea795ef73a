use Rattle.std.proofs.Common.{◌≡◌, ◌<◌, length}
use Rattle.std.specs.Prelude.{slice_get}
use Rattle.rga_ops.specs.Places.{visible}
use Rattle.rga_tree.specs.Nodes.{content_of_nodes}
use Rattle.rga_tree.specs.Preceding.{beginning, visible_up_to}
use Rattle.rga_tree.proofs.PrecedingLaws.{Stands}
use Rattle.rga_tree.proofs.counting_back.element_at.Given as goal

-- what was passed stands behind the index
abbrev pub invariant-loop-step : goal.invariant-loop-step
invariant-loop-step l = record {
  stands : Stands (content_of_nodes l.nodes.entries) l.at;
  counted : l.count ≡ length (visible_up_to (content_of_nodes l.nodes.entries) l.at);
  within : l.k < l.count;
  same : slice_get (visible (content_of_nodes l.nodes.entries)) l.k ≡ slice_get (visible_up_to (content_of_nodes l.nodes.entries) l.at) l.k;
}

abbrev pub decreases-loop-step : goal.decreases-loop-step
decreases-loop-step l = length (beginning (content_of_nodes l.nodes.entries) l.at)
