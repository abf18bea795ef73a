-- The invariant of a tree store, and that each operation keeps it.
use Rattle.std.proofs.Common.{◌≡◌, ℕ, ◌+◌, true, false, cond, ◌&&◌, ◌||◌, [], sym, ap, subst}
use Rattle.std.specs.Prelude.{Option, Ok, max}
use Rattle.std.specs.Option.{option_map_or}
use Rattle.std.specs.List.{IsDistinct}
use Rattle.std.specs.List.Sorted.{IsStrictlySortedBy}
use Rattle.std.specs.FinMap as finite_map
use Rattle.std.specs.FinSet as finite_set
use Rattle.rga_ops.specs.Identifier.{Identifier, id_cmp, is_id}
use Rattle.rga_ops.specs.Content.{Content, Element, nothing, join, single}
use Rattle.rga_ops.specs.Answer.{answer}
use Rattle.rga_ops.proofs.AnswerLaws.{IsNewInsertion, new_insertion}
use Rattle.rga_ops.specs.declared.op.Op.TheVariants.{Insert, Delete}
use Rattle.rga_ops.specs.declared.refusal.Taken.TheVariants.{New}
use Rattle.rga_store.specs.Limit.{is_limit}
use Rattle.rga_store.specs.Rising.{IsRising}
use Rattle.rga_tree.specs.Children.{has_child}
use Rattle.rga_tree.specs.Nodes.{Nodes, AreDistinctNodes, content_of_nodes, children_of}
use Rattle.rga_store.specs.Counted.{IsCounted}
use Rattle.rga_tree.specs.Tree.{IsFamily, IsTree}
use Rattle.rga_store.proofs.StepLaws.{counted_insertion, counted_deletion}
use Rattle.rga_tree.proofs.FamilyLaws.{family_insertion, family_deletion, family_same}
use Rattle.rga_store.proofs.CountedLaws.{counted_nothing}

-- nodes that mean a content are a tree with what that counts
pub tree_of : (ms : Nodes) (c : Content) (latest insertions identifiers limit : ℕ) → AreDistinctNodes ms → content_of_nodes ms ≡ c → IsFamily c (children_of ms) → IsCounted c latest insertions identifiers limit → IsTree ms latest insertions identifiers limit
tree_of ms c latest insertions identifiers limit apart means family counted = record {
  apart = apart;
  family = subst (λ d. IsFamily d (children_of ms)) (sym means) family;
  counted = subst (λ d. IsCounted d latest insertions identifiers limit) (sym means) counted;
}

-- the clock and the number of identifiers by other words
pub counted_as : (c : Content) (latest later insertions identifiers more limit : ℕ) → later ≡ latest → more ≡ identifiers → IsCounted c latest insertions identifiers limit → IsCounted c later insertions more limit
counted_as c latest later insertions identifiers more limit time count w = subst (λ n. IsCounted c n insertions more limit) (sym time) (subst (λ n. IsCounted c latest insertions n limit) (sym count) w)

module _ (ns ms : Nodes) (latest insertions identifiers limit : ℕ) (w : IsTree ns latest insertions identifiers limit) (apart : AreDistinctNodes ms) where
  -- it is a tree as before with the same content and the same children
  pub tree_same : content_of_nodes ms ≡ content_of_nodes ns → ((p : Identifier) → children_of ms p ≡ children_of ns p) → IsTree ms latest insertions identifiers limit
  tree_same same lists = tree_of ms (content_of_nodes ns) latest insertions identifiers limit apart same (family_same (content_of_nodes ns) (children_of ns) (children_of ms) w.family lists) w.counted

  pub tree_insertion : (id parent : Identifier) (ch later more : ℕ) → answer limit (content_of_nodes ns) (Insert id parent ch) ≡ Ok New
      → content_of_nodes ms ≡ join (content_of_nodes ns) (single (Insert id parent ch))
      → ((p k : Identifier) → has_child (children_of ms p) k ≡ (has_child (children_of ns p) k || (is_id parent p && is_id id k))) → ((p : Identifier) → IsRising (children_of ms p))
      → later ≡ max latest id.counter → more ≡ cond (finite_set.contains (content_of_nodes ns).deleted id) identifiers (identifiers + 1) → IsTree ms later (insertions + 1) more limit
  tree_insertion id parent ch later more answered joined children rising is_later is_more =
      let new : IsNewInsertion limit (content_of_nodes ns) id parent = new_insertion limit (content_of_nodes ns) id parent ch answered in
      tree_of ms (join (content_of_nodes ns) (single (Insert id parent ch))) later (insertions + 1) more limit apart joined
      (family_insertion (content_of_nodes ns) id parent ch (children_of ns) (children_of ms) new.absent w.family children rising)
      (counted_as _ _ later (insertions + 1) _ more limit is_later is_more (counted_insertion (content_of_nodes ns) latest insertions identifiers limit w.counted id parent ch answered))

  pub tree_deletion : (id : Identifier) (later more : ℕ) → answer limit (content_of_nodes ns) (Delete id) ≡ Ok New
      → content_of_nodes ms ≡ join (content_of_nodes ns) (single (Delete id)) → ((p : Identifier) → children_of ms p ≡ children_of ns p)
      → later ≡ max latest id.counter → more ≡ cond (finite_map.contains_key (content_of_nodes ns).inserted id) identifiers (identifiers + 1) → IsTree ms later insertions more limit
  tree_deletion id later more answered joined lists is_later is_more =
      tree_of ms (join (content_of_nodes ns) (single (Delete id))) later insertions more limit apart joined
      (family_deletion (content_of_nodes ns) id (children_of ms) (family_same (content_of_nodes ns) (children_of ns) (children_of ms) w.family lists))
      (counted_as _ _ later insertions _ more limit is_later is_more (counted_deletion (content_of_nodes ns) latest insertions identifiers limit w.counted id answered))

-- no nodes mean nothing
no_family : IsFamily nothing (children_of [])
unfolding IsStrictlySortedBy
no_family = record {
  children = λ p k. sym (ap (λ (o : Option Element). option_map_or (λ x. is_id x.parent p) o false) (finite_map.get-empty id_cmp k));
  rising = λ p. tt;
}

pub empty_tree : (limit : ℕ) → is_limit limit ≡ true → IsTree [] 0 0 0 limit
unfolding IsDistinct
empty_tree limit h = record {
  apart = tt;
  family = no_family;
  counted = counted_nothing limit h;
}
