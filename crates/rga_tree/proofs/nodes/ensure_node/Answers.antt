use Rattle.std.proofs.Common.{◌≡◌, false, refl, sym, ap, ◌∙◌, subst}
use Rattle.std.specs.Prelude.{None}
use Rattle.indexmap.specs.IndexMap.{insert_entry, set_value_at}
use Rattle.std.specs.Option.{option_map}
use Rattle.rga_ops.specs.Identifier.{Identifier, is_id}
use Rattle.rga_ops.specs.Content.{element}
use Rattle.rga_tree.specs.Nodes.{Nodes, AreDistinctNodes, StandsAt, content_of_nodes, children_of}
use Rattle.rga_tree.proofs.NodeLaws.{IsPut, put_back, place_made, places_made, place_found, content_kept, children_kept}
use Rattle.rga_tree.proofs.nodes.ensure_node.Goals as goal

-- ---- a node is made

put : (c : goal.In-Ok-default-None) → IsPut c.args.nodes.now.entries c.insert_full.new.self.entries c.args.id None (record { element = None; deleted = false; children = c.new.result })
put c = record {
  found = sym c.in-Ok-default-None.ensures.old ∙ c.in-Ok-default-None.field-0-1-is;
  now = c.in-Ok-default-None.ensures.updates.0;
}

pub returns-in-Ok-default-None-clause-index : goal.returns-in-Ok-default-None-clause-index
returns-in-Ok-default-None-clause-index c =
    rw (c.in-Ok-default-None.ensures.entries, c.in-Ok-default-None.ensures.index) (place_made _ _ _)

pub returns-in-Ok-default-None-clause-others : goal.returns-in-Ok-default-None-clause-others
returns-in-Ok-default-None-clause-others c = λ i q h. rw c.in-Ok-default-None.ensures.entries (places_made _ _ _ i q h)

pub returns-in-Ok-default-None-clause-content : goal.returns-in-Ok-default-None-clause-content
returns-in-Ok-default-None-clause-content c = content_kept _ _ _ _ _ c.requires c.in-Ok-default-None.ensures.unique (put c) refl refl

pub returns-in-Ok-default-None-clause-children : goal.returns-in-Ok-default-None-clause-children
returns-in-Ok-default-None-clause-children c = children_kept _ _ _ _ _ c.requires c.in-Ok-default-None.ensures.unique (put c) c.new.ensures

-- ---- a node was there, and is put back

same : (c : goal.Joined-index_mut-node) → set_value_at c.insert_full.new.self.entries c.in-Ok-default-Some.index c.in-Ok-default-Some.node ≡ c.args.nodes.now.entries
same c =
    (λ k. set_value_at (c.in-Ok-default-Some.ensures.entries k) (c.in-Ok-default-Some.ensures.index k) c.in-Ok-default-Some.node)
    ∙ put_back c.args.nodes.now.entries c.args.id c.in-Ok-default-Some.node _ (sym c.in-Ok-default-Some.ensures.old ∙ c.in-Ok-default-Some.field-0-1-is)

pub returns-in-Ok-default-Some-clause-index : goal.returns-in-Ok-default-Some-clause-index
returns-in-Ok-default-Some-clause-index c =
    rw (same c, c.in-Ok-default-Some.ensures.index)
    (place_found c.args.nodes.now.entries c.args.id c.in-Ok-default-Some.node (sym c.in-Ok-default-Some.ensures.old ∙ c.in-Ok-default-Some.field-0-1-is))

pub returns-in-Ok-default-Some-clause-others : goal.returns-in-Ok-default-Some-clause-others
returns-in-Ok-default-Some-clause-others c = λ i q h. rw (same c) h

pub returns-in-Ok-default-Some-clause-content : goal.returns-in-Ok-default-Some-clause-content
returns-in-Ok-default-Some-clause-content c = ap content_of_nodes (same c)

pub returns-in-Ok-default-Some-clause-children : goal.returns-in-Ok-default-Some-clause-children
returns-in-Ok-default-Some-clause-children c = λ p. ap (λ ns. children_of ns p) (same c)

pub returns-in-Ok-default-Some-clause-apart : goal.returns-in-Ok-default-Some-clause-apart
returns-in-Ok-default-Some-clause-apart c = subst (λ (ns : Nodes). AreDistinctNodes ns) (sym (same c)) c.requires
