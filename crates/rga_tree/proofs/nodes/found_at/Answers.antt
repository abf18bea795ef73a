use Rattle.std.proofs.Common.{sym, ap, ◌∙◌}
use Rattle.rga_tree.proofs.NodeLaws.{element_of, mark_of, inserted_at, deleted_at, found_there}
use Rattle.rga_tree.proofs.nodes.found_at.Goals as goal

pub returns-clause-found : goal.returns-clause-found
returns-clause-found c =
    sym (inserted_at c.args.nodes.now.entries c.requires.apart c.args.id
    ∙ ap element_of (found_there c.args.nodes.now c.args.index c.args.id c.index-node.result.now c.index-node.result.now c.requires.apart c.requires.index c.index-node.ensures))

pub returns-clause-deleted : goal.returns-clause-deleted
returns-clause-deleted c =
    sym (deleted_at c.args.nodes.now.entries c.requires.apart c.args.id
    ∙ ap mark_of (found_there c.args.nodes.now c.args.index c.args.id c.index-node.result.now c.index-node.result.now c.requires.apart c.requires.index c.index-node.ensures))
