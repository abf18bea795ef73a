use Rattle.std.proofs.Common.{◌≡◌, false, is_some, not, ◌&&◌, refl, sym, ap, ◌∙◌, subst}
use Rattle.std.specs.Prelude.{Some}
use Rattle.std.specs.Option.{option_copied_mut}
use Rattle.std.specs.Map.{lookup}
use Rattle.rga_ops.specs.Identifier.{Identifier, is_id}
use Rattle.rga_tree.specs.declared.nodes.Node.{Node}
use Rattle.rga_store.specs.Rising.{IsRising}
use Rattle.rga_tree.specs.Children.{children_in, has_child}
use Rattle.rga_tree.specs.Nodes.{Nodes, children_at, children_of}
use Rattle.rga_tree.proofs.ChildLaws.{left, rising_now}
use Rattle.rga_tree.proofs.NodeLaws.{IsPut, content_kept, children_put, children_else}
use Rattle.rga_tree.proofs.nodes.remove_child.Goals as goal

pub remove-requires : goal.remove-requires
remove-requires c = rw (← ap children_at (sym c.get_mut.ensures.value ∙ ap option_copied_mut c.in-Some.is)) (c.requires c.args.parent)

found : (c : goal.After-nodes-in-Some-1) → lookup (is_id c.args.parent) c.args.nodes.now.entries ≡ Some c.in-Some.node.now
found c = sym c.get_mut.ensures.value ∙ ap option_copied_mut c.in-Some.is

abbrev written : (c : goal.After-nodes-in-Some-1) → Node
written c = record { element = c.in-Some.node.now.element; deleted = c.in-Some.node.now.deleted; children = c.remove.new.self }

abbrev after : (c : goal.After-nodes-in-Some-1) → Nodes
after c = (c.get_mut.follows.lender (written c)).entries

put : (c : goal.After-nodes-in-Some-1) → IsPut c.args.nodes.now.entries (after c) c.args.parent (Some c.in-Some.node.now) (written c)
put c = record { found = found c; now = ((c.get_mut.follows.holds (written c)).3 (ap is_some (found c))).0 }

here : (c : goal.After-nodes-in-Some-1) → children_of (after c) c.args.parent ≡ children_in c.remove.new.self
here c = children_put c.args.nodes.now.entries (after c) c.args.parent (Some c.in-Some.node.now) (written c) c.get_mut.ensures.unique (c.get_mut.follows.holds (written c)).4 (put c)

there : (c : goal.After-nodes-in-Some-1) (p : Identifier) → is_id c.args.parent p ≡ false → children_of (after c) p ≡ children_of c.args.nodes.now.entries p
there c = children_else c.args.nodes.now.entries (after c) c.args.parent (Some c.in-Some.node.now) (written c) c.get_mut.ensures.unique (c.get_mut.follows.holds (written c)).4 (put c)

pub returns-in-Some-clause-removed : goal.returns-in-Some-clause-removed
returns-in-Some-clause-removed c =
    left (children_of c.args.nodes.now.entries) (children_of (after c)) c.args.parent c.args.id
    (λ k. ap (λ ks. has_child ks k) (here c) ∙ c.remove.ensures.removed k ∙ ap (λ ks. has_child ks k && not (is_id c.args.id k)) (sym (ap children_at (found c))))
    (there c)

pub returns-in-Some-clause-rising : goal.returns-in-Some-clause-rising
returns-in-Some-clause-rising c =
    rising_now (children_of c.args.nodes.now.entries) (children_of (after c)) c.args.parent (subst (λ ks. IsRising ks) (sym (here c)) c.remove.ensures.rising) (there c) c.requires

pub returns-in-Some-clause-content : goal.returns-in-Some-clause-content
returns-in-Some-clause-content c = content_kept _ _ _ _ _ c.get_mut.ensures.unique (c.get_mut.follows.holds (written c)).4 (put c) refl refl
