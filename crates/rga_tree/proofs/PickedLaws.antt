-- The identifiers of the nodes that pass a test, gathered node by node.
use Rattle.std.proofs.Common.{arith, ◌≡◌, ℕ, ◌+◌, suc, zero, Bool, true, false, cond, filter, take, slice_get, add-one, [], ◌∷◌, ◌++◌, is_some, ap, ◌∙◌, subst}
use Rattle.std.specs.Prelude.{Some}
use Rattle.std.specs.List.{list_any, IsDistinct, AllByRecursion}
use Rattle.std.specs.Map.{keys_of}
use Rattle.std.specs.FinMap as finite_map
use Rattle.std.proofs.lemmas.Option.{same_Some, none-some}
use Rattle.rga_ops.specs.Identifier.{Identifier, is_id}
use Rattle.rga_ops.proofs.IdentifierLaws.{is}
use Rattle.rga_tree.specs.declared.nodes.Node.{Node}
use Rattle.rga_tree.specs.Nodes.{Nodes, ids_where, inserted_ids, content_of_nodes, AreDistinctNodes}
use Rattle.rga_tree.proofs.NodeLaws.{same_tests, any_where, inserted_at}

module _ (test : Node → Bool) where
  -- one more node adds its identifier where it passes
  pub picked_step : (ns : Nodes) (i : ℕ) (k : Identifier) (v : Node) → slice_get ns i ≡ Some (k, v) → ids_where test (take (i + 1) ns) ≡ ids_where test (take i ns) ++ cond (test v) (k ∷ []) []
  picked_step ns i k v h = ap (λ n. ids_where test (take n ns)) (add-one i) ∙ step ns i h
    where
      first : (n : Identifier × Node) → n ≡ (k, v) → ids_where test (n ∷ []) ≡ cond (test v) (k ∷ []) []
      first n e = ap (λ (m : Identifier × Node). ids_where test (m ∷ [])) e ∙ grind arith

      step : (ns : Nodes) (i : ℕ) → slice_get ns i ≡ Some (k, v) → ids_where test (take (suc i) ns) ≡ ids_where test (take i ns) ++ cond (test v) (k ∷ []) []
      step [] i h = absurd (none-some _ h)
      step (n ∷ ns) zero h = first n (same_Some _ _ h)
      step (n ∷ ns) (suc i) h = grind (arith, step ns i h)

  picked_all : (P : Identifier → Type 0) (ns : Nodes) → AllByRecursion P (keys_of ns) → AllByRecursion P (ids_where test ns)
  picked_all P [] h = tt
  picked_all P (n ∷ ns) h = elim (test n.1) as (λ b. AllByRecursion P (keys_of (cond b (n ∷ filter (λ m. test m.1) ns) (filter (λ m. test m.1) ns)))) [ true ↦ (h.0, picked_all P ns h.1) | false ↦ picked_all P ns h.1 ]

  picked_apart : (ns : Nodes) → AreDistinctNodes ns → IsDistinct is_id (ids_where test ns)
  unfolding IsDistinct
  picked_apart [] h = tt
  picked_apart (n ∷ ns) h = elim (test n.1) as (λ b. IsDistinct is_id (keys_of (cond b (n ∷ filter (λ m. test m.1) ns) (filter (λ m. test m.1) ns)))) [ true ↦ (picked_all (λ y. is_id n.0 y ≡ false) ns h.0, picked_apart ns h.1) | false ↦ picked_apart ns h.1 ]

  -- and none is there twice
  pub picked_distinct : (ns : Nodes) → AreDistinctNodes ns → IsDistinct is (ids_where test ns)
  picked_distinct ns h = subst (λ (t : Identifier → Identifier → Bool). IsDistinct t (ids_where test ns)) same_tests (picked_apart ns h)

-- those with an element are the inserted ones
pub any_inserted : (ns : Nodes) (q : Identifier) → AreDistinctNodes ns → list_any (is q) (inserted_ids ns) ≡ finite_map.contains_key (content_of_nodes ns).inserted q
any_inserted ns q h = any_where (λ v. is_some v.element) q ns h ∙ grind (arith, inserted_at ns h q)
