use Rattle.std.proofs.Common.{◌≡◌, is_some, refl, sym, ap, ◌∙◌, true≢false}
use Rattle.std.specs.Prelude.{Some, None}
use Rattle.std.specs.Option.{option_copied_mut}
use Rattle.std.specs.Map.{lookup}
use Rattle.rga_ops.specs.Identifier.{is_id}
use Rattle.rga_tree.specs.declared.nodes.Node.{Node}
use Rattle.rga_tree.specs.Nodes.{Nodes}
use Rattle.rga_tree.proofs.NodeLaws.{IsPut, element_of, inserted_at, mark_of, deleted_at, content_uninserted, children_kept}
use Rattle.rga_tree.proofs.nodes.clear_element.Goals as goal

found : (c : goal.After-nodes-in-Some-1) → lookup (is_id c.args.id) c.args.nodes.now.entries ≡ Some c.in-Some.node.now
found c = sym c.get_mut.ensures.value ∙ ap option_copied_mut c.in-Some.is

abbrev written : (c : goal.After-nodes-in-Some-1) → Node
written c = record { element = None; deleted = c.in-Some.node.now.deleted; children = c.in-Some.node.now.children }

abbrev after : (c : goal.After-nodes-in-Some-1) → Nodes
after c = (c.get_mut.follows.lender (written c)).entries

put : (c : goal.After-nodes-in-Some-1) → IsPut c.args.nodes.now.entries (after c) c.args.id (Some c.in-Some.node.now) (written c)
put c = record { found = found c; now = ((c.get_mut.follows.holds (written c)).3 (ap is_some (found c))).0 }

pub returns-in-Some-clause-deleted : goal.returns-in-Some-clause-deleted
returns-in-Some-clause-deleted c = sym (deleted_at c.args.nodes.now.entries c.get_mut.ensures.unique c.args.id ∙ ap mark_of (found c))

pub returns-in-Some-clause-content : goal.returns-in-Some-clause-content
returns-in-Some-clause-content c = content_uninserted _ _ _ _ _ c.get_mut.ensures.unique (c.get_mut.follows.holds (written c)).4 (put c) refl refl

pub returns-in-Some-clause-children : goal.returns-in-Some-clause-children
returns-in-Some-clause-children c = children_kept _ _ _ _ _ c.get_mut.ensures.unique (c.get_mut.follows.holds (written c)).4 (put c) refl

-- there is a node
pub returns-in-None : goal.returns-in-None
returns-in-None c =
    let none : lookup (is_id c.args.id) c.args.nodes.now.entries ≡ None = sym c.get_mut.ensures.value ∙ ap option_copied_mut c.in-None.is in
    absurd (true≢false (sym c.requires ∙ ap is_some (inserted_at c.args.nodes.now.entries c.get_mut.ensures.unique c.args.id ∙ ap element_of none)))
