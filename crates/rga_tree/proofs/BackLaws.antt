-- What removing operations again leaves of a tree.
use Rattle.std.proofs.Common.{◌≡◌, ℕ, ◌-◌, true, cond, not, ◌&&◌, sym, ap, ◌∙◌}
use Rattle.std.specs.FinMap as finite_map
use Rattle.std.specs.FinSet as finite_set
use Rattle.rga_ops.specs.Identifier.{Identifier, is_id}
use Rattle.rga_ops.specs.Content.{Content, clock_of}
use Rattle.rga_store.specs.Without.{without_insertion, without_deletion}
use Rattle.rga_store.specs.Rising.{IsRising}
use Rattle.rga_tree.specs.Children.{has_child}
use Rattle.rga_tree.specs.Nodes.{Nodes, AreDistinctNodes, content_of_nodes, children_of}
use Rattle.rga_store.specs.Child.{is_child}
use Rattle.rga_tree.specs.Tree.{IsFamily, IsTree}
use Rattle.rga_store.proofs.StepLaws.{IsChild, child_found}
use Rattle.rga_store.proofs.WithoutLaws.{counted_without_insertion, counted_without_deletion}
use Rattle.rga_tree.proofs.FamilyLaws.{family_same, child_left}
use Rattle.rga_tree.proofs.TreeLaws.{tree_of, counted_as}

module _ (ns ms : Nodes) (latest insertions identifiers limit : ℕ) (w : IsTree ns latest insertions identifiers limit) (apart : AreDistinctNodes ms) where
  pub tree_without_insertion : (id parent : Identifier) (sooner less : ℕ) → is_child (content_of_nodes ns) parent id ≡ true
      → content_of_nodes ms ≡ without_insertion id (content_of_nodes ns)
      → ((p k : Identifier) → has_child (children_of ms p) k ≡ (has_child (children_of ns p) k && not (is_id parent p && is_id id k))) → ((p : Identifier) → IsRising (children_of ms p))
      → sooner ≡ clock_of (without_insertion id (content_of_nodes ns)) → less ≡ cond (finite_set.contains (content_of_nodes ns).deleted id) identifiers (identifiers - 1) → IsTree ms sooner (insertions - 1) less limit
  tree_without_insertion id parent sooner less its left children rising is_sooner is_less =
      let c : Content = content_of_nodes ns in
      let found : IsChild c parent id = child_found c parent id its in
      tree_of ms (without_insertion id c) sooner (insertions - 1) less limit apart left
      (record {
        children = λ p k. children p k ∙ ap (λ b. b && not (is_id parent p && is_id id k)) (w.family.children p k) ∙ sym (child_left c id parent p k its);
        rising = rising;
      })
      (counted_as _ _ sooner (insertions - 1) _ less limit is_sooner is_less (counted_without_insertion c latest insertions identifiers limit w.counted id found.element found.found))

  pub tree_without_deletion : (id : Identifier) (sooner less : ℕ) → finite_set.contains (content_of_nodes ns).deleted id ≡ true
      → content_of_nodes ms ≡ without_deletion id (content_of_nodes ns) → ((p : Identifier) → children_of ms p ≡ children_of ns p)
      → sooner ≡ clock_of (without_deletion id (content_of_nodes ns)) → less ≡ cond (finite_map.contains_key (content_of_nodes ns).inserted id) identifiers (identifiers - 1) → IsTree ms sooner insertions less limit
  tree_without_deletion id sooner less its left lists is_sooner is_less =
      let c : Content = content_of_nodes ns in
      let same : IsFamily c (children_of ms) = family_same c (children_of ns) (children_of ms) w.family lists in
      tree_of ms (without_deletion id c) sooner insertions less limit apart left (record { children = same.children; rising = same.rising })
      (counted_as _ _ sooner insertions _ less limit is_sooner is_less (counted_without_deletion c latest insertions identifiers limit w.counted id its))
