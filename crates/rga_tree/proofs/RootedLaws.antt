-- Where the root has a node and each other node its element, no inserted element waits.
use Rattle.std.proofs.Common.{◌≡◌, ℕ, ◌+◌, ◌≤◌, ◌<◌, suc, zero, Bool, true, false, cond, not, ◌||◌, List, [], ◌∷◌, filter, length, is_some, refl, sym, ap, ◌∙◌, arith, true≢false, inl, inr}
use Rattle.std.specs.Prelude.{Option, Some, None}
use Rattle.std.specs.Cmp.{eq_by_cmp_equiv}
use Rattle.std.specs.Option.{option_map_or}
use Rattle.std.specs.List.{list_any, IsDistinct, AllByRecursion}
use Rattle.std.specs.Map.{lookup, keys_of}
use Rattle.std.specs.FinMap as finite_map
use Rattle.std.proofs.lemmas.Bool.{or_cases, false_from_ne_true}
use Rattle.std.proofs.lemmas.Bool.Decides.{nat_tests}
use Rattle.std.proofs.lemmas.List.{length-map}
use Rattle.std.proofs.lemmas.Map.Made.{length-le_from_is_member}
use Rattle.rga_ops.specs.Identifier.{Identifier, is_id, root, is_root}
use Rattle.rga_ops.specs.Content.{Element, Content, IsSound}
use Rattle.rga_ops.specs.RootPath.{is_complete, IsComplete, below_root, below_element}
use Rattle.rga_ops.specs.Order.{waiting}
use Rattle.rga_ops.proofs.AnswerLaws.{well_formed_insertion}
use Rattle.rga_ops.proofs.IdentifierLaws.{ids_total, is, same_id, is_id-same, is_id-itself}
use Rattle.rga_ops.proofs.MemberLaws.{all_members}
use Rattle.rga_ops.proofs.PathLaws.{is_complete-iff}
use Rattle.rga_ops.proofs.WaitingLaws.{distinct_inserted}
use Rattle.rga_ops.specs.declared.op.Op.TheVariants.{Insert}
use Rattle.rga_tree.specs.declared.nodes.Node.{Node}
use Rattle.rga_tree.specs.Children.{has_child}
use Rattle.rga_tree.specs.Nodes.{Nodes, AreDistinctNodes, content_of_nodes, children_at}
use Rattle.rga_tree.specs.Tree.{HasFamilies}
use Rattle.rga_tree.proofs.NodeLaws.{same_tests, element_of, inserted_at}
use Rattle.rga_store.proofs.StepLaws.{len-keys}

-- an identifier at which something is seen has a node
pub seen_there : (see : Option Node → Bool) → see None ≡ false → (q : Identifier) (ns : Nodes) → see (lookup (is_id q) ns) ≡ true → list_any (is q) (keys_of ns) ≡ true
seen_there see none q [] h = absurd (true≢false (sym h ∙ none))
seen_there see none q (n ∷ ns) h =
    let same : is_id q n.0 ≡ is q n.0 = λ k. same_tests k q n.0 in
    grind (arith, same, seen_there see none q ns, h)

-- what is no member differs from each member
apart_from : (k : Identifier) (ks : List Identifier) → list_any (is k) ks ≡ false → AllByRecursion (λ y. is k y ≡ false) ks
apart_from k ks h = all_members (λ y. is k y ≡ false) ks (λ q m. false_from_ne_true (is k q) (λ t. true≢false (sym m ∙ ap (λ i. list_any (is i) ks) (sym (same_id k q t)) ∙ h)))

module _ (ns : Nodes) (c : Content) (means : c ≡ content_of_nodes ns) (apart : AreDistinctNodes ns) (family : HasFamilies ns) (sound : IsSound c) (counted : length ns ≡ finite_map.len c.inserted + 1) (rooted : list_any (is root) (keys_of ns) ≡ true) where
  proper : (k : Identifier) (x : Element) → finite_map.get c.inserted k ≡ Some x → (is_root k ≡ false) × (x.parent.counter < k.counter)
  proper k x g =
      let w = well_formed_insertion k x.parent x.ch (sound (Insert k x.parent x.ch) g) in
      (w.0, grind (arith, nat_tests, w.1))

  -- an inserted element has a node, and its parent too
  own_node : (k : Identifier) → list_any (is k) (finite_map.keys c.inserted) ≡ true → list_any (is k) (keys_of ns) ≡ true
  own_node k m =
      seen_there (λ o. is_some (element_of o)) refl k ns
      (ap is_some (sym (inserted_at ns apart k)) ∙ ap (λ (d : Content). is_some (finite_map.get d.inserted k)) (sym means) ∙ finite_map.contains_key-keys c.inserted k ∙ m)

  parents_node : (k : Identifier) (x : Element) → finite_map.get c.inserted k ≡ Some x → list_any (is x.parent) (keys_of ns) ≡ true
  parents_node k x g =
      seen_there (λ o. has_child (children_at o) k) refl x.parent ns
      (family.children x.parent k ∙ ap (λ (d : Content). option_map_or (λ y. is_id y.parent x.parent) (finite_map.get d.inserted k) false) (sym means)
      ∙ ap (λ (o : Option Element). option_map_or (λ y. is_id y.parent x.parent) o false) g ∙ is_id-itself x.parent)

  -- beside the root's no node is without an element
  no_other : (p : Identifier) → is_root p ≡ false → list_any (is p) (keys_of ns) ≡ true → list_any (is p) (finite_map.keys c.inserted) ≡ false → ⊥
  unfolding IsDistinct
  no_other p other there absent =
      let keys : List Identifier = finite_map.keys c.inserted in
      let no_root : list_any (is root) keys ≡ false = false_from_ne_true (list_any (is root) keys) root_out in
      let two : is root p ≡ false = sym (is_id-same p root) ∙ other in
      let few : length (root ∷ p ∷ keys) ≤ length (keys_of ns) =
      length-le_from_is_member (eq_by_cmp_equiv ids_total) (root ∷ p ∷ keys) (keys_of ns)
      ((two, apart_from root keys no_root), (apart_from p keys absent, distinct_inserted c)) among in
      omega (arith, few, len-keys c, counted, length-map ns (λ n. n.0))
    where
      root_out : list_any (is root) (finite_map.keys c.inserted) ≡ true → ⊥
      root_out m =
          elim (finite_map.get c.inserted root) as (λ o. finite_map.get c.inserted root ≡ o → is_some o ≡ true → ⊥) [
            | None ↦ λ g h. absurd (true≢false (sym h))
            | Some x ↦ λ g h. absurd (true≢false (sym (is_id-itself root) ∙ (proper root x g).0))
          ] refl (finite_map.contains_key-keys c.inserted root ∙ m)

      among : (q : Identifier) → list_any (is q) (root ∷ p ∷ finite_map.keys c.inserted) ≡ true → list_any (is q) (keys_of ns) ≡ true
      among q m = elim (or_cases (is q root) (is q p || list_any (is q) (finite_map.keys c.inserted)) m) [
        | inl t ↦ ap (λ i. list_any (is i) (keys_of ns)) (same_id q root t) ∙ rooted
        | inr m ↦ elim (or_cases (is q p) (list_any (is q) (finite_map.keys c.inserted)) m) [
          | inl t ↦ ap (λ i. list_any (is i) (keys_of ns)) (same_id q p t) ∙ there
          | inr m ↦ own_node q m
        ]
      ]

  -- so each inserted element's parent is the root or is inserted, with a smaller counter
  complete_below : (n : ℕ) (k : Identifier) (x : Element) → k.counter < n → finite_map.get c.inserted k ≡ Some x → IsComplete c k
  complete_below zero k x low g = absurd (omega (arith, low))
  complete_below (suc n) k x low g =
      let its = proper k x g in
      elim (is_root x.parent) as (λ b. is_root x.parent ≡ b → IsComplete c k) [
        | true ↦ λ r. below_root x its.0 g r
        | false ↦ λ r. elim (finite_map.get c.inserted x.parent) as (λ o. finite_map.get c.inserted x.parent ≡ o → IsComplete c k) [
          | None ↦ λ f. absurd (no_other x.parent r (parents_node k x g) (sym (finite_map.contains_key-keys c.inserted x.parent) ∙ ap is_some f))
          | Some y ↦ λ f. below_element x its.0 g (complete_below n x.parent y (omega (arith, low, its.1)) f)
        ] refl
      ] refl

  complete_key : (k : Identifier) → list_any (is k) (finite_map.keys c.inserted) ≡ true → is_complete c k ≡ true
  complete_key k m =
      elim (finite_map.get c.inserted k) as (λ o. finite_map.get c.inserted k ≡ o → is_some o ≡ true → is_complete c k ≡ true) [
        | None ↦ λ g h. absurd (true≢false (sym h))
        | Some x ↦ λ g h. (is_complete-iff c k).1 (complete_below (k.counter + 1) k x (omega arith) g)
      ] refl (finite_map.contains_key-keys c.inserted k ∙ m)

  none_left : (ks : List Identifier) → AllByRecursion (λ k. is_complete c k ≡ true) ks → filter (λ k. not (is_complete c k)) ks ≡ []
  none_left [] h = refl
  none_left (k ∷ ks) h = ap (λ b. cond (not b) (k ∷ filter (λ i. not (is_complete c i)) ks) (filter (λ i. not (is_complete c i)) ks)) h.0 ∙ none_left ks h.1

  pub none_waits : waiting c ≡ []
  none_waits = none_left (finite_map.keys c.inserted) (all_members (λ k. is_complete c k ≡ true) (finite_map.keys c.inserted) complete_key)
