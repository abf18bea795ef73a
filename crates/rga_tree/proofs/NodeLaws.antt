-- What nodes stand for, by look-ups: so what a write of one node changes.
use Rattle.std.proofs.Common.{◌≡◌, ℕ, ◌+◌, suc, zero, arith, Bool, true, false, cond, not, ◌&&◌, [], ◌∷◌, filter, is_some, refl, sym, ap, ◌∙◌, subst}
use Rattle.std.specs.Prelude.{Option, Some, None, slice_get}
use Rattle.std.specs.Cmp.{IsEquivalence, eq_by_cmp_equiv}
use Rattle.std.specs.Option.{option_map, option_and_then, option_map_or}
use Rattle.std.specs.List.{position_or_len, list_any, filter_map, cons_option, IsDistinct, AllByRecursion}
use Rattle.std.specs.Map.{lookup, keys_of, values_of}
use Rattle.std.specs.FinMap as finite_map
use Rattle.std.specs.FinMap.{find}
use Rattle.std.specs.FinSet as finite_set
use Rattle.std.proofs.lemmas.Map.Entries.{lookup_from_place}
use Rattle.std.proofs.lemmas.Option.{same_Some, none-some}
use Rattle.rga_ops.specs.Identifier.{Identifier, id_cmp, is_id}
use Rattle.rga_ops.specs.Content.{Element, element, join, single}
use Rattle.rga_ops.specs.Order.{shown}
use Rattle.rga_ops.proofs.IdentifierLaws.{ids_total, is, is_swap, is_id-same, is_id-is, is_id-itself}
use Rattle.rga_ops.proofs.ContentLaws.{same_content}
use Rattle.rga_ops.specs.declared.op.Op.TheVariants.{Insert, Delete}
use Rattle.indexmap.specs.IndexMap.{IndexMap, insert_entry, set_value_at}
use Rattle.indexmap.proofs.CallerLemmas.{keys-with_value_at, updates-with_value_at}
use Rattle.rga_ops.proofs.ListSteps.{get-insertion, get-deletion}
use Rattle.rga_store.proofs.StepLaws.{deleted_then, deleted_now}
use Rattle.rga_store.proofs.CaseSteps.{true_where}
use Rattle.rga_tree.specs.declared.nodes.Node.{Node}
use Rattle.rga_tree.specs.Nodes.{Nodes, element_in, insertion_in, ids_where, marked_ids, content_of_nodes, children_at, children_of, char_at, AreDistinctNodes, StandsAt}
use Rattle.rga_tree.specs.Children.{children_in}
use Rattle.rga_store.specs.Without.{without_insertion, without_deletion}

-- the two tests of identifiers are one
pub same_tests : is_id ≡ is
same_tests = λ k x y. (is_id-same x y ∙ is_swap y x) k

pub ids_equivalence : IsEquivalence is_id
ids_equivalence = subst (λ (t : Identifier → Identifier → Bool). IsEquivalence t) (sym same_tests) (eq_by_cmp_equiv ids_total)

-- ---- what is found at an identifier

abbrev pub element_of : Option Node → Option Element
element_of o = option_and_then element_in o

abbrev pub mark_of : Option Node → Bool
mark_of o = option_map_or (λ v. v.deleted) o false

pub is_some-mapped : {A B : Type 0} (f : A → B) (o : Option A) → is_some (option_map f o) ≡ is_some o
is_some-mapped f None = refl
is_some-mapped f (Some x) = refl

-- the parent and the character, as they are kept
pub element_shown : (o : Option (Identifier × ℕ)) → option_map {T = Element} {U = Identifier × ℕ} (λ x. (x.parent, x.ch)) (option_map (λ x. element x.0 x.1) o) ≡ o
element_shown o = grind arith

none_later : (q : Identifier) (n : Identifier × Node) (ns : Nodes) → AreDistinctNodes (n ∷ ns) → is_id q n.0 ≡ true → lookup (is_id q) ns ≡ None
unfolding IsDistinct
none_later q n ns h t = subst (λ i. lookup (is_id i) ns ≡ None) (sym (is_id-is q n.0 t)) (absent n.0 ns h.0)
  where
    absent : (k : Identifier) (ms : Nodes) → AllByRecursion (λ y. is_id k y ≡ false) (keys_of ms) → lookup (is_id k) ms ≡ None
    absent k [] h = refl
    absent k (m ∷ ms) h = ap (λ b. cond b (Some m.1) (lookup (is_id k) ms)) h.0 ∙ absent k ms h.1

-- whether the first key is the identifier, by either test
first_is : (q : Identifier) (n : Identifier × Node) (b : Bool) → is_id q n.0 ≡ b → is q n.0 ≡ b
first_is q n b t = (λ k. sym same_tests k q n.0) ∙ t

find_insertions : (q : Identifier) (ns : Nodes) → AreDistinctNodes ns → find id_cmp q (filter_map insertion_in ns) ≡ element_of (lookup (is_id q) ns)
unfolding IsDistinct
find_insertions q [] h = refl
find_insertions q (n ∷ ns) h =
    let rest : find id_cmp q (filter_map insertion_in ns) ≡ element_of (lookup (is_id q) ns) = find_insertions q ns h.1 in
    elim (is_id q n.0) as (λ b. is_id q n.0 ≡ b → find id_cmp q (cons_option (insertion_in n) (filter_map insertion_in ns)) ≡ element_of (cond b (Some n.1) (lookup (is_id q) ns))) [
      | true ↦ λ t. here (element_in n.1) t (rest ∙ ap element_of (none_later q n ns h t))
      | false ↦ λ t. there (element_in n.1) t ∙ rest
    ] refl
  where
    here : (o : Option Element) → is_id q n.0 ≡ true → find id_cmp q (filter_map insertion_in ns) ≡ None → find id_cmp q (cons_option (option_map (λ x. (n.0, x)) o) (filter_map insertion_in ns)) ≡ o
    here o t none = grind (arith, first_is q n true t)

    there : (o : Option Element) → is_id q n.0 ≡ false → find id_cmp q (cons_option (option_map (λ x. (n.0, x)) o) (filter_map insertion_in ns)) ≡ find id_cmp q (filter_map insertion_in ns)
    there o t = grind (arith, first_is q n false t)

-- an identifier is inserted as its node says
pub inserted_at : (ns : Nodes) → AreDistinctNodes ns → (q : Identifier) → finite_map.get (content_of_nodes ns).inserted q ≡ element_of (lookup (is_id q) ns)
inserted_at ns h q = finite_map.get-from_entries ids_total (filter_map insertion_in ns) q ∙ find_insertions q ns h

-- an identifier is among those of the nodes that pass a test as its node says
pub any_where : (test : Node → Bool) (q : Identifier) (ns : Nodes) → AreDistinctNodes ns → list_any (is q) (ids_where test ns) ≡ option_map_or test (lookup (is_id q) ns) false
unfolding IsDistinct
any_where test q [] h = refl
any_where test q (n ∷ ns) h =
    let rest : list_any (is q) (ids_where test ns) ≡ option_map_or test (lookup (is_id q) ns) false = any_where test q ns h.1 in
    elim (is_id q n.0) as (λ b. is_id q n.0 ≡ b → list_any (is q) (ids_where test (n ∷ ns)) ≡ option_map_or test (cond b (Some n.1) (lookup (is_id q) ns)) false) [
      | true ↦ λ t. here (test n.1) t (rest ∙ ap (λ o. option_map_or test o false) (none_later q n ns h t))
      | false ↦ λ t. there (test n.1) t ∙ rest
    ] refl
  where
    here : (b : Bool) → is_id q n.0 ≡ true → list_any (is q) (ids_where test ns) ≡ false → list_any (is q) (keys_of (cond b (n ∷ filter (λ m. test m.1) ns) (filter (λ m. test m.1) ns))) ≡ b
    here b t none = grind (arith, first_is q n true t)

    there : (b : Bool) → is_id q n.0 ≡ false → list_any (is q) (keys_of (cond b (n ∷ filter (λ m. test m.1) ns) (filter (λ m. test m.1) ns))) ≡ list_any (is q) (ids_where test ns)
    there b t = grind (arith, first_is q n false t)

-- and deleted as its node says
pub deleted_at : (ns : Nodes) → AreDistinctNodes ns → (q : Identifier) → finite_set.contains (content_of_nodes ns).deleted q ≡ mark_of (lookup (is_id q) ns)
deleted_at ns h q = finite_set.contains-from_list ids_total (marked_ids ns) q ∙ any_where (λ v. v.deleted) q ns h

-- and shown as its node says
pub shown_at : (ns : Nodes) → AreDistinctNodes ns → (q : Identifier) → shown (content_of_nodes ns) q ≡ char_at (lookup (is_id q) ns)
shown_at ns h q = (λ k. cond (deleted_at ns h q k) None (option_map (λ x. x.ch) (inserted_at ns h q k))) ∙ grind arith

-- ---- changes

-- a node of the identifier is there now, in place of the one that was found, if any
pub record IsPut (ns ms : Nodes) (id : Identifier) (old : Option Node) (new : Node) : Type 0 where
  pub found : lookup (is_id id) ns ≡ old
  pub now : (q : Identifier) → lookup (is_id q) ms ≡ cond (is_id id q) (Some new) (lookup (is_id q) ns)

-- what is seen of the nodes is as it was, but at the identifier
pub seen_now : {A : Type 0} (see : Option Node → A) (ns ms : Nodes) (id : Identifier) (old : Option Node) (new : Node) → IsPut ns ms id old new → (q : Identifier) → see (lookup (is_id q) ms) ≡ cond (is_id id q) (see (Some new)) (see (lookup (is_id q) ns))
seen_now see ns ms id old new w q = grind (arith, w.now q)

-- and at the identifier too, where both nodes show the same
pub seen_same : {A : Type 0} (see : Option Node → A) (ns ms : Nodes) (id : Identifier) (old : Option Node) (new : Node) → IsPut ns ms id old new → see (Some new) ≡ see old → (q : Identifier) → see (lookup (is_id q) ms) ≡ see (lookup (is_id q) ns)
seen_same see ns ms id old new w same q = grind (arith, w.now q, w.found, is_id-is id q, same)

-- ---- a write at a place

node_there : (ns : Nodes) (i : ℕ) (k : Identifier) (v : Node) → slice_get (keys_of ns) i ≡ Some k → slice_get (values_of ns) i ≡ Some v → slice_get ns i ≡ Some (k, v)
node_there [] i k v h g = absurd (none-some _ h)
node_there (n ∷ ns) zero k v h g = λ j. Some (same_Some _ _ h j, same_Some _ _ g j)
node_there (n ∷ ns) (suc i) k v h g = node_there ns i k v h g

module _ {S : Type 0} (m : IndexMap Identifier Node S) (place : ℕ) (id : Identifier) (v w : Node) (apart : AreDistinctNodes m.entries) (stands : StandsAt m.entries place id) (there : slice_get (values_of m.entries) place ≡ Some v) where
  -- the node at an identifier's place is the one that is found
  pub found_there : lookup (is_id id) m.entries ≡ Some v
  found_there = lookup_from_place ids_equivalence m.entries place id v apart (node_there m.entries place id v stands there)

  pub put_there : IsPut m.entries (set_value_at m.entries place w) id (Some v) w
  put_there = record {
    found = found_there;
    now = (updates-with_value_at m place w ids_equivalence apart id v (node_there m.entries place id v stands there)).0;
  }

  pub apart_still : AreDistinctNodes (set_value_at m.entries place w)
  apart_still = subst (λ ks. IsDistinct is_id ks) (sym (keys-with_value_at m place w)) apart

  pub places_still : (i : ℕ) (q : Identifier) → StandsAt m.entries i q → StandsAt (set_value_at m.entries place w) i q
  places_still i q h = ap (λ ks. slice_get ks i) (keys-with_value_at m place w) ∙ h

-- ---- a node that is made

pub place_made : (ns : Nodes) (id : Identifier) (w : Node) → StandsAt (insert_entry is_id ns id w) (position_or_len (is_id id) (keys_of ns)) id
place_made [] id w = refl
place_made (n ∷ ns) id w = grind (arith, is_id-is id n.0, place_made ns id w)

pub places_made : (ns : Nodes) (id : Identifier) (w : Node) (i : ℕ) (q : Identifier) → StandsAt ns i q → StandsAt (insert_entry is_id ns id w) i q
places_made [] id w i q h = absurd (none-some _ h)
places_made (n ∷ ns) id w zero q h = grind arith
places_made (n ∷ ns) id w (suc i) q h = grind (arith, places_made ns id w i q)

pub place_found : (ns : Nodes) (id : Identifier) (v : Node) → lookup (is_id id) ns ≡ Some v → StandsAt ns (position_or_len (is_id id) (keys_of ns)) id
place_found [] id v h = absurd (none-some _ h)
place_found (n ∷ ns) id v h = grind (arith, is_id-is id n.0, place_found ns id v)

-- the node that was there, put back
pub put_back : (ns : Nodes) (id : Identifier) (v w : Node) → lookup (is_id id) ns ≡ Some v → set_value_at (insert_entry is_id ns id w) (position_or_len (is_id id) (keys_of ns)) v ≡ ns
put_back [] id v w h = absurd (none-some _ h)
put_back (n ∷ ns) id v w h = grind (arith, put_back ns id v w)

-- ---- what writes do to the content and to the children

module _ (ns ms : Nodes) (id : Identifier) (old : Option Node) (new : Node) (apart : AreDistinctNodes ns) (apart_now : AreDistinctNodes ms) (put : IsPut ns ms id old new) where
  -- neither the element nor the mark changes
  pub content_kept : element_of (Some new) ≡ element_of old → mark_of (Some new) ≡ mark_of old → content_of_nodes ms ≡ content_of_nodes ns
  content_kept element mark = same_content _ _
      (λ q. inserted_at ms apart_now q ∙ seen_same element_of ns ms id old new put element q ∙ sym (inserted_at ns apart q))
      (λ q. deleted_at ms apart_now q ∙ seen_same mark_of ns ms id old new put mark q ∙ sym (deleted_at ns apart q))

  pub children_kept : children_at (Some new) ≡ children_at old → (p : Identifier) → children_of ms p ≡ children_of ns p
  children_kept children p = seen_same children_at ns ms id old new put children p

  pub children_put : children_of ms id ≡ children_in new.children
  children_put = ap children_at (put.now id ∙ ap (λ b. cond b (Some new) (lookup (is_id id) ns)) (is_id-itself id))

  pub children_else : (p : Identifier) → is_id id p ≡ false → children_of ms p ≡ children_of ns p
  children_else p t = ap children_at (put.now p ∙ ap (λ b. cond b (Some new) (lookup (is_id p) ns)) t)

  -- an element comes
  pub content_inserted : (parent : Identifier) (ch : ℕ) → element_of (Some new) ≡ Some (element parent ch) → mark_of (Some new) ≡ mark_of old → finite_map.get (content_of_nodes ns).inserted id ≡ None → content_of_nodes ms ≡ join (content_of_nodes ns) (single (Insert id parent ch))
  content_inserted parent ch comes mark none = same_content _ _
      (λ q. inserted_at ms apart_now q ∙ seen_now element_of ns ms id old new put q
      ∙ (λ k. cond (is_id-same id q k) (comes k) (sym (inserted_at ns apart q) k))
      ∙ sym (get-insertion (content_of_nodes ns) id parent ch q none))
      (λ q. deleted_at ms apart_now q ∙ seen_same mark_of ns ms id old new put mark q ∙ sym (deleted_at ns apart q)
      ∙ sym (deleted_then (content_of_nodes ns) id parent ch q))

  -- a mark comes
  pub content_deleted : element_of (Some new) ≡ element_of old → new.deleted ≡ true → content_of_nodes ms ≡ join (content_of_nodes ns) (single (Delete id))
  content_deleted element comes = same_content _ _
      (λ q. inserted_at ms apart_now q ∙ seen_same element_of ns ms id old new put element q ∙ sym (inserted_at ns apart q)
      ∙ sym (get-deletion (content_of_nodes ns) id q))
      (λ q. deleted_at ms apart_now q ∙ seen_now mark_of ns ms id old new put q
      ∙ (λ k. cond (is_id-same id q k) (comes k) (sym (deleted_at ns apart q) k))
      ∙ true_where (is q id) (finite_set.contains (content_of_nodes ns).deleted q)
      ∙ sym (deleted_now (content_of_nodes ns) id q))

  -- the element goes
  pub content_uninserted : element_of (Some new) ≡ None → mark_of (Some new) ≡ mark_of old → content_of_nodes ms ≡ without_insertion id (content_of_nodes ns)
  content_uninserted goes mark = same_content _ _
      (λ q. inserted_at ms apart_now q ∙ seen_now element_of ns ms id old new put q
      ∙ (λ k. cond (is_id-same id q k) (goes k) (sym (inserted_at ns apart q) k))
      ∙ sym (finite_map.get-remove ids_total (content_of_nodes ns).inserted id q))
      (λ q. deleted_at ms apart_now q ∙ seen_same mark_of ns ms id old new put mark q ∙ sym (deleted_at ns apart q))

  -- the mark goes
  pub content_undeleted : element_of (Some new) ≡ element_of old → new.deleted ≡ false → content_of_nodes ms ≡ without_deletion id (content_of_nodes ns)
  content_undeleted element goes = same_content _ _
      (λ q. inserted_at ms apart_now q ∙ seen_same element_of ns ms id old new put element q ∙ sym (inserted_at ns apart q))
      (λ q. deleted_at ms apart_now q ∙ seen_now mark_of ns ms id old new put q
      ∙ (λ k. cond (is_id-same id q k) (goes k) (sym (deleted_at ns apart q) k))
      ∙ apart_then (is q id) (finite_set.contains (content_of_nodes ns).deleted q)
      ∙ sym (finite_set.contains-remove ids_total (content_of_nodes ns).deleted id q))
    where
      apart_then : (here there : Bool) → cond here false there ≡ (not here && there)
      apart_then here there = grind arith
