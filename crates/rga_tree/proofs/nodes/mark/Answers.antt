use Rattle.std.proofs.Common.{true, is_some, refl, sym, ap, ◌∙◌}
use Rattle.std.specs.Prelude.{Some}
use Rattle.indexmap.specs.IndexMap.{set_value_at}
use Rattle.rga_tree.specs.declared.nodes.Node.{Node}
use Rattle.rga_tree.specs.Nodes.{Nodes, AreDistinctNodes}
use Rattle.rga_tree.proofs.NodeLaws.{IsPut, element_of, inserted_at, is_some-mapped, put_there, apart_still, content_deleted, children_kept}
use Rattle.rga_tree.proofs.nodes.mark.Goals as goal

abbrev written : (c : goal.After-nodes-1) → Node
written c = record { element = c.index_mut-node.result.now.element; deleted = true; children = c.index_mut-node.result.now.children }

abbrev after : (c : goal.After-nodes-1) → Nodes
after c = set_value_at c.args.nodes.now.entries c.args.index (written c)

put : (c : goal.After-nodes-1) → IsPut c.args.nodes.now.entries (after c) c.args.id (Some c.index_mut-node.result.now) (written c)
put c = put_there c.args.nodes.now c.args.index c.args.id c.index_mut-node.result.now (written c) c.requires.apart c.requires.index c.index_mut-node.ensures.value

apart : (c : goal.After-nodes-1) → AreDistinctNodes (after c)
apart c = apart_still c.args.nodes.now c.args.index c.args.id c.index_mut-node.result.now (written c) c.requires.apart c.requires.index c.index_mut-node.ensures.value

pub returns-clause-inserted : goal.returns-clause-inserted
returns-clause-inserted c =
    c.is_some.ensures ∙ sym (is_some-mapped _ c.index_mut-node.result.now.element)
    ∙ sym (ap is_some (inserted_at c.args.nodes.now.entries c.requires.apart c.args.id ∙ ap element_of (put c).found))

pub returns-clause-content : goal.returns-clause-content
returns-clause-content c = content_deleted _ _ _ _ _ c.requires.apart (apart c) (put c) refl refl

pub returns-clause-children : goal.returns-clause-children
returns-clause-children c = children_kept _ _ _ _ _ c.requires.apart (apart c) (put c) refl

pub returns-clause-apart : goal.returns-clause-apart
returns-clause-apart c = apart c
