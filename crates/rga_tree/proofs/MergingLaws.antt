-- What two sets of nodes know together, and where they conflict, node by node.
use Rattle.std.proofs.Common.{◌≡◌, ℕ, ◌+◌, ◌<◌, arith, Bool, true, false, cond, not, ◌&&◌, ◌||◌, List, [], ◌∷◌, filter, take, length, slice_get, is_some, refl, sym, ap, ◌∙◌, subst, true≢false, inl, inr, length-append}
use Rattle.std.specs.Prelude.{Option, Some, None, ◌⊎◌}
use Rattle.std.specs.Option.{option_map, option_map_or}
use Rattle.std.specs.List.{position_or_len}
use Rattle.std.specs.Map.{lookup, keys_of}
use Rattle.std.specs.FinSet as finite_set
use Rattle.std.proofs.lemmas.Bool.{cases_eq, false_from_ne_true}
use Rattle.std.proofs.lemmas.List.{length-map}
use Rattle.std.proofs.lemmas.List.Elements.{filter-append}
use Rattle.std.proofs.lemmas.Option.{same_Some, none-some, slice_get_within, slice_get-map}
use Rattle.rga_ops.specs.Identifier.{Identifier, is_id, IsLarger}
use Rattle.rga_ops.specs.Content.{Element, element, Content, known_ids, join}
use Rattle.rga_ops.specs.ListAnswer.{has_another, is_conflict, least_conflict, IsConflict}
use Rattle.rga_ops.proofs.IdentifierLaws.{ids_total, ids_exact}
use Rattle.rga_ops.proofs.AnswerLaws.{contains-known}
use Rattle.rga_ops.proofs.CountLaws.{len-known_join}
use Rattle.rga_ops.proofs.MergeLaws.{is_conflict-iff, agree-iff, no_least_conflict-iff, least_conflict-iff, least_conflict_swap}
use Rattle.rga_ops.specs.declared.op.Op.TheVariants.{Insert}
use Rattle.rga_tree.specs.declared.nodes.Node.{Node}
use Rattle.rga_tree.specs.Nodes.{Nodes, content_of_nodes, ids_where, AreDistinctNodes, StandsAt}
use Rattle.rga_tree.proofs.NodeLaws.{element_of, inserted_at, deleted_at, any_where, place_found}
use Rattle.rga_tree.proofs.PickedLaws.{picked_step, picked_distinct}

-- ---- the least conflict

-- an identifier conflicts as its node says
pub conflict_at : (c : Content) (ns : Nodes) → AreDistinctNodes ns → (q : Identifier) (v : Node) → lookup (is_id q) ns ≡ Some v → is_conflict (content_of_nodes ns) c q ≡ option_map_or (λ x. has_another c (Insert q x.0 x.1)) v.element false
conflict_at c ns apart q v found =
    ap (λ o. option_map_or (λ x. has_another c (Insert q x.parent x.ch)) o false) (inserted_at ns apart q ∙ ap element_of found)
    ∙ grind arith

-- the first is there, and the second is no smaller
abbrev pub IsAtMost : Option Identifier → Identifier → Type 0
IsAtMost None q = ⊥
IsAtMost (Some k) q = IsLarger k q → ⊥

-- of the identifiers of the first nodes, the least that passes
pub record IsLeastSoFar (p : Identifier → Bool) (ns : Nodes) (count : ℕ) (least : Option Identifier) : Type 0 where
  pub passes : (k : Identifier) → least ≡ Some k → p k ≡ true
  pub bounds : (i : ℕ) (q : Identifier) → i < count → StandsAt ns i q → p q ≡ true → IsAtMost least q

key_there : (ns : Nodes) (i : ℕ) (k : Identifier) (v : Node) → slice_get ns i ≡ Some (k, v) → StandsAt ns i k
key_there ns i k v h = slice_get-map (λ (n : Identifier × Node). n.0) ns i ∙ ap (option_map (λ (n : Identifier × Node). n.0)) h

-- what is not smaller than what is not smaller
not_smaller : (a b c : Identifier) → (IsLarger b a → ⊥) → (IsLarger c b → ⊥) → IsLarger c a → ⊥
not_smaller a b c first second smaller = grind (arith, ids_exact a b, ids_total.trans b a c, ids_total.antisymm b a, first, second, smaller)

module _ (p : Identifier → Bool) (ns : Nodes) (i : ℕ) (k : Identifier) (v : Node) (there : slice_get ns i ≡ Some (k, v)) where
  -- what stands among the first nodes, or is the next one's
  next_or_earlier : {P : Type 0} (j : ℕ) (q : Identifier) → j < i + 1 → StandsAt ns j q → (q ≡ k → P) → (j < i → P) → P
  next_or_earlier j q early stands next earlier = elim (cases_eq j i) [
    | inl here ↦ next (same_Some _ _ (sym stands ∙ ap (slice_get (keys_of ns)) here ∙ key_there ns i k v there))
    | inr other ↦ earlier (omega (arith, early, other))
  ]

  -- the next identifier does not pass
  pub least_passed : (o : Option Identifier) → p k ≡ false → IsLeastSoFar p ns i o → IsLeastSoFar p ns (i + 1) o
  least_passed o f w = record {
    passes = w.passes;
    bounds = λ j q early stands t.
        next_or_earlier j q early stands
        (λ same. absurd (true≢false (sym t ∙ ap p same ∙ f)))
        (λ before. w.bounds j q before stands t);
  }

  -- it passes, and the lesser is kept
  pub least_lowered : (o : Option Identifier) (r : Identifier) → p k ≡ true → (o ≡ Some r) ⊎ (r ≡ k) → ((s : Identifier) → o ≡ Some s → IsLarger r s → ⊥) → (IsLarger r k → ⊥) → IsLeastSoFar p ns i o → IsLeastSoFar p ns (i + 1) (Some r)
  least_lowered o r t either below below_next w = record {
    passes = λ s h. ap p (sym (same_Some _ _ h)) ∙ kept;
    bounds = λ j q early stands u.
        next_or_earlier j q early stands
        (λ same. subst (λ x. IsLarger r x → ⊥) (sym same) below_next)
        (λ before. lower o below q (w.bounds j q before stands u));
  }
    where
      kept : p r ≡ true
      kept = elim either [ inl old ↦ w.passes r old | inr new ↦ ap p new ∙ t ]

      lower : (o : Option Identifier) → ((s : Identifier) → o ≡ Some s → IsLarger r s → ⊥) → (q : Identifier) → IsAtMost o q → IsLarger r q → ⊥
      lower None below q h = absurd h
      lower (Some s) below q h = not_smaller q s r h (below s refl)

-- the least of all nodes' conflicts is that of the contents
pub least_found : (c : Content) (ns : Nodes) → AreDistinctNodes ns → (o : Option Identifier) → IsLeastSoFar (is_conflict (content_of_nodes ns) c) ns (length ns) o → o ≡ least_conflict c (content_of_nodes ns)
least_found c ns apart o w = sym (least_conflict_swap c d ∙ by_least o w)
  where
    d : Content
    d = content_of_nodes ns

    node_of : (q : Identifier) (x : Element) (f : Option Node) → lookup (is_id q) ns ≡ f → element_of f ≡ Some x → (v : Node) × (lookup (is_id q) ns ≡ Some v)
    node_of q x None found h = absurd (none-some _ h)
    node_of q x (Some v) found h = (v, found)

    place : Identifier → ℕ
    place q = position_or_len (is_id q) (keys_of ns)

    bounded : (o : Option Identifier) → IsLeastSoFar (is_conflict d c) ns (length ns) o → (q : Identifier) → is_conflict d c q ≡ true → IsAtMost o q
    bounded o w q t =
        let at : IsConflict d c q = (is_conflict-iff d c q).0 t in
        let (v, found) = node_of q at.here (lookup (is_id q) ns) refl (sym (inserted_at ns apart q) ∙ at.inserted_here) in
        let stands : StandsAt ns (place q) q = place_found ns q v found in
        w.bounds (place q) q (subst (λ n. place q < n) (length-map ns (λ (m : Identifier × Node). m.0)) (slice_get_within (keys_of ns) (place q) q stands)) stands t

    by_least : (o : Option Identifier) → IsLeastSoFar (is_conflict d c) ns (length ns) o → least_conflict d c ≡ o
    by_least None w = (no_least_conflict-iff d c).1 ((agree-iff d c).1 (λ q. false_from_ne_true (is_conflict d c q) (λ t. bounded None w q t)))
    by_least (Some k) w = (least_conflict-iff d c k).1 (record {
      conflict = (is_conflict-iff d c k).0 (w.passes k refl);
      least = λ q at. bounded (Some k) w q ((is_conflict-iff d c q).1 at);
    })

-- ---- what is not known yet

-- a node that has an element, a mark or both
abbrev pub means_something : Node → Bool
means_something v = is_some v.element || v.deleted

-- an identifier is known as its node says
pub known_at : (ns : Nodes) → AreDistinctNodes ns → (q : Identifier) → finite_set.contains (known_ids (content_of_nodes ns)) q ≡ option_map_or means_something (lookup (is_id q) ns) false
known_at ns apart q =
    contains-known (content_of_nodes ns) q
    ∙ (λ k. is_some (inserted_at ns apart q k) || deleted_at ns apart q k)
    ∙ grind arith

-- what the nodes know and the content does not
abbrev pub unknown_ids : Content → Nodes → List Identifier
unknown_ids c ns = filter (λ q. not (finite_set.contains (known_ids c) q)) (ids_where means_something ns)

-- one node more
pub unknown_step : (c : Content) (ns : Nodes) (i : ℕ) (k : Identifier) (v : Node) → slice_get ns i ≡ Some (k, v) → length (unknown_ids c (take (i + 1) ns)) ≡ length (unknown_ids c (take i ns)) + cond (means_something v && not (finite_set.contains (known_ids c) k)) 1 0
unknown_step c ns i k v there =
    ap (λ ks. length (filter unknown ks)) (picked_step means_something ns i k v there)
    ∙ ap length (filter-append unknown (ids_where means_something (take i ns)) (cond (means_something v) (k ∷ []) []))
    ∙ length-append (unknown_ids c (take i ns)) (filter unknown (cond (means_something v) (k ∷ []) []))
    ∙ grind arith
  where
    unknown : Identifier → Bool
    unknown q = not (finite_set.contains (known_ids c) q)

-- the join knows these too, and nothing else
pub unknown_counted : (c : Content) (ns : Nodes) → AreDistinctNodes ns → finite_set.len (known_ids (join c (content_of_nodes ns))) ≡ finite_set.len (known_ids c) + length (unknown_ids c ns)
unknown_counted c ns apart =
    len-known_join c (content_of_nodes ns) (ids_where means_something ns) (picked_distinct means_something ns apart)
    (λ q. known_at ns apart q ∙ sym (any_where means_something q ns apart))
