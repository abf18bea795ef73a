use Rattle.std.proofs.Common.{◌≡◌, ◌||◌, false, refl, sym, ap, ◌∙◌, subst}
use Rattle.std.specs.Prelude.{Some}
use Rattle.indexmap.specs.IndexMap.{set_value_at}
use Rattle.rga_ops.specs.Identifier.{Identifier, is_id}
use Rattle.rga_tree.specs.declared.nodes.Node.{Node}
use Rattle.rga_store.specs.Rising.{IsRising}
use Rattle.rga_tree.specs.Children.{children_in, has_child}
use Rattle.rga_tree.specs.Nodes.{Nodes, AreDistinctNodes, children_at, children_of}
use Rattle.rga_ops.proofs.CaseSteps.{on_ok_map, on_err_map}
use Rattle.rga_tree.proofs.ChildLaws.{added, rising_now}
use Rattle.rga_tree.proofs.NodeLaws.{IsPut, found_there, put_there, apart_still, places_still, content_kept, children_kept, children_put, children_else}
use Rattle.rga_tree.proofs.nodes.add_child.Goals as goal

-- the children that the parent had
had : (c : goal.After-put-arg-1) → children_of c.args.nodes.now.entries c.args.parent ≡ children_in c.index_mut.result.now.children
had c = ap children_at (found_there c.args.nodes.now c.args.index c.args.parent c.index_mut.result.now c.index_mut.result.now c.requires.apart c.requires.index c.index_mut.ensures.value)

pub put-requires-clause-rising : goal.put-requires-clause-rising
put-requires-clause-rising c = subst (λ ks. IsRising ks) (had c) (c.requires.rising c.args.parent)

pub put-requires-clause-absent : goal.put-requires-clause-absent
put-requires-clause-absent c = ap (λ ks. has_child ks c.args.id) (sym (had c)) ∙ c.requires.absent

abbrev written : (c : goal.After-nodes-1) → Node
written c = record { element = c.index_mut.result.now.element; deleted = c.index_mut.result.now.deleted; children = c.put.new.self }

abbrev after : (c : goal.After-nodes-1) → Nodes
after c = set_value_at c.args.nodes.now.entries c.args.index (written c)

put : (c : goal.After-nodes-1) → IsPut c.args.nodes.now.entries (after c) c.args.parent (Some c.index_mut.result.now) (written c)
put c = put_there c.args.nodes.now c.args.index c.args.parent c.index_mut.result.now (written c) c.requires.apart c.requires.index c.index_mut.ensures.value

apart : (c : goal.After-nodes-1) → AreDistinctNodes (after c)
apart c = apart_still c.args.nodes.now c.args.index c.args.parent c.index_mut.result.now (written c) c.requires.apart c.requires.index c.index_mut.ensures.value

before : (c : goal.After-nodes-1) → children_of c.args.nodes.now.entries c.args.parent ≡ children_in c.index_mut.result.now.children
before c = ap children_at (put c).found

here : (c : goal.After-nodes-1) → children_of (after c) c.args.parent ≡ children_in c.put.new.self
here c = children_put c.args.nodes.now.entries (after c) c.args.parent (Some c.index_mut.result.now) (written c) c.requires.apart (apart c) (put c)

there : (c : goal.After-nodes-1) (p : Identifier) → is_id c.args.parent p ≡ false → children_of (after c) p ≡ children_of c.args.nodes.now.entries p
there c = children_else c.args.nodes.now.entries (after c) c.args.parent (Some c.index_mut.result.now) (written c) c.requires.apart (apart c) (put c)

pub returns-clause-added : goal.returns-clause-added
returns-clause-added c =
    on_ok_map c.put.result
    (λ (has : (k : Identifier) → has_child (children_in c.put.new.self) k ≡ (has_child (children_in c.index_mut.result.now.children) k || is_id c.args.id k)).
    added (children_of c.args.nodes.now.entries) (children_of (after c)) c.args.parent c.args.id
    (λ k. ap (λ ks. has_child ks k) (here c) ∙ has k ∙ ap (λ ks. has_child ks k || is_id c.args.id k) (sym (before c)))
    (there c))
    c.put.ensures.added

pub returns-clause-rising : goal.returns-clause-rising
returns-clause-rising c =
    rising_now (children_of c.args.nodes.now.entries) (children_of (after c)) c.args.parent (subst (λ ks. IsRising ks) (sym (here c)) c.put.ensures.rising) (there c) c.requires.rising

pub returns-clause-others : goal.returns-clause-others
returns-clause-others c = places_still c.args.nodes.now c.args.index c.args.parent c.index_mut.result.now (written c) c.requires.apart c.requires.index c.index_mut.ensures.value

pub returns-clause-content : goal.returns-clause-content
returns-clause-content c = content_kept _ _ _ _ _ c.requires.apart (apart c) (put c) refl refl

pub returns-clause-apart : goal.returns-clause-apart
returns-clause-apart c = apart c

pub returns-clause-same : goal.returns-clause-same
returns-clause-same c = on_err_map c.put.result (λ same. children_kept _ _ _ _ _ c.requires.apart (apart c) (put c) (ap children_in same)) c.put.ensures.same
