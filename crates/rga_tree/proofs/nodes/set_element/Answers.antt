use Rattle.std.proofs.Common.{refl, sym, ap, ◌∙◌}
use Rattle.std.specs.Prelude.{Some}
use Rattle.indexmap.specs.IndexMap.{set_value_at}
use Rattle.rga_tree.specs.declared.nodes.Node.{Node}
use Rattle.rga_tree.specs.Nodes.{Nodes, AreDistinctNodes}
use Rattle.rga_tree.proofs.NodeLaws.{IsPut, mark_of, deleted_at, put_there, apart_still, content_inserted, children_kept}
use Rattle.rga_tree.proofs.nodes.set_element.Goals as goal

abbrev written : (c : goal.After-nodes-1) → Node
written c = record { element = Some (c.args.parent, c.args.ch); deleted = c.index_mut-node.result.now.deleted; children = c.index_mut-node.result.now.children }

abbrev after : (c : goal.After-nodes-1) → Nodes
after c = set_value_at c.args.nodes.now.entries c.args.index (written c)

put : (c : goal.After-nodes-1) → IsPut c.args.nodes.now.entries (after c) c.args.id (Some c.index_mut-node.result.now) (written c)
put c = put_there c.args.nodes.now c.args.index c.args.id c.index_mut-node.result.now (written c) c.requires.apart c.requires.index c.index_mut-node.ensures.value

apart : (c : goal.After-nodes-1) → AreDistinctNodes (after c)
apart c = apart_still c.args.nodes.now c.args.index c.args.id c.index_mut-node.result.now (written c) c.requires.apart c.requires.index c.index_mut-node.ensures.value

pub returns-clause-deleted : goal.returns-clause-deleted
returns-clause-deleted c =
    sym (deleted_at c.args.nodes.now.entries c.requires.apart c.args.id ∙ ap mark_of (put c).found)

pub returns-clause-content : goal.returns-clause-content
returns-clause-content c = content_inserted _ _ _ _ _ c.requires.apart (apart c) (put c) _ _ refl refl c.requires.absent

pub returns-clause-children : goal.returns-clause-children
returns-clause-children c = children_kept _ _ _ _ _ c.requires.apart (apart c) (put c) refl

pub returns-clause-apart : goal.returns-clause-apart
returns-clause-apart c = apart c
