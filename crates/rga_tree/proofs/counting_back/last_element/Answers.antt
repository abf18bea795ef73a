use Rattle.std.proofs.Common.{refl}
use Rattle.rga_tree.specs.Nodes.{content_of_nodes}
use Rattle.rga_tree.proofs.CountingLaws.{end_of_order, end_stands}
use Rattle.rga_tree.proofs.counting_back.last_element.Goals as goal

pub returns-clause-last : goal.returns-clause-last
returns-clause-last c = end_of_order (content_of_nodes c.args.nodes.now.entries) _ c.last_under.result refl c.last_under.ensures

pub returns-clause-complete : goal.returns-clause-complete
returns-clause-complete c = end_stands (content_of_nodes c.args.nodes.now.entries) _ c.last_under.result refl c.last_under.ensures
