-- The order list: the function gives it, nothing else is one, and what precedes what is a strict total order.
use Rattle.std.proofs.Common.{◌≡◌, true, false, not, ◌&&◌, T, List, [], ◌∷◌, map, refl, sym, ap, ◌∙◌, subst, is_some, true≢false, inl, inr, arith}
use Rattle.std.specs.Prelude.{Some, ◌⊎◌, ◌≢◌, unwrap_or}
use Rattle.std.specs.Cmp.{both_ways}
use Rattle.std.specs.Ordering.{is_lt}
use Rattle.std.specs.List.{list_any, filter_map, cons_option, AllByRecursion, IsDistinct}
use Rattle.std.specs.declared.cmp.Ordering.TheVariants.{Less}
use Rattle.std.specs.FinMap as finite_map
use Rattle.std.specs.FinMap.{find, is_sorted}
use Rattle.std.specs.FinMap.Entries.{below_all}
use Rattle.std.proofs.lemmas.Bool.{false_from_ne_true}
use Rattle.std.proofs.lemmas.Option.{same_Some, none-some}
use Rattle.rga_ops.specs.Identifier.{Identifier}
use Rattle.rga_ops.specs.Content.{Content}
use Rattle.rga_ops.specs.RootPath.{Path, path_cmp, root_path, is_complete, IsComplete, IsRootPath}
use Rattle.rga_ops.specs.Order.{placed, by_path, order, Precedes, IsInOrder, IsOrderList}
use Rattle.rga_ops.proofs.IdentifierLaws.{is, same_id, is_itself}
use Rattle.rga_ops.proofs.MemberLaws.{all_members}
use Rattle.rga_ops.proofs.BeforeLaws.{paths_total, not_less, before-iff, before_total}
use Rattle.rga_ops.proofs.PathLaws.{root_path-is, is-root_path, one_element, path_of_complete, not_complete_root}
use Rattle.rga_ops.proofs.PlacedLaws.{IsPlaced, is-placed, find-placed, placed-find, by_path-get, order_is, entries_placed}
use Rattle.rga_ops.proofs.SortedLaws.{both_so, both_hold, less_of}

-- ---- what precedes what

pub precedes_irreflexive : (c : Content) (a : Identifier) → Precedes c a a → ⊥
precedes_irreflexive c a s = grind (arith, same_Some, not_less, paths_total)

pub precedes_transitive : (c : Content) (a b d : Identifier) → Precedes c a b → Precedes c b d → Precedes c a d
precedes_transitive c a b d s t =
    let same : s.there ≡ t.here = same_Some _ _ (sym s.path_there ∙ t.path_here) in
    record {
      here = s.here;
      there = t.there;
      path_here = s.path_here;
      path_there = t.path_there;
      before = paths_total.trans s.here s.there t.there s.before (ap (λ p. path_cmp p t.there) same ∙ t.before);
    }

pub precedes_total : (c : Content) (a b : Identifier) → IsComplete c a → IsComplete c b → a ≢ b → Precedes c a b ⊎ Precedes c b a
precedes_total c a b complete_a complete_b other =
    let up_a = path_of_complete complete_a in
    let up_b = path_of_complete complete_b in
    elim (before_total up_a.0 up_b.0) [
      | inl before ↦ inl (record { here = up_a.0; there = up_b.0; path_here = is-root_path up_a.1; path_there = is-root_path up_b.1; before = (before-iff up_a.0 up_b.0).0 before })
      | inr rest ↦ elim rest [
        | inl same ↦ absurd (other (one_element (not_complete_root complete_a) (not_complete_root complete_b) up_a.1 (subst (λ p. IsRootPath c b p) (sym same) up_b.1)))
        | inr before ↦ inr (record { here = up_b.0; there = up_a.0; path_here = is-root_path up_b.1; path_there = is-root_path up_a.1; before = (before-iff up_b.0 up_a.0).0 before })
      ]
    ]

-- the first of a list in order precedes all the others
pub precedes_later : (c : Content) (x : Identifier) (ys : List Identifier) → IsInOrder c (x ∷ ys) → AllByRecursion (Precedes c x) ys
precedes_later c x [] o = tt
precedes_later c x (y ∷ ys) o = (o.0, further y ys o.0 o.1)
  where
    further : (y : Identifier) (ys : List Identifier) → Precedes c x y → IsInOrder c (y ∷ ys) → AllByRecursion (Precedes c x) ys
    further y [] s o = tt
    further y (z ∷ zs) s o = let t : Precedes c x z = precedes_transitive c x y z s o.0 in (t, further z zs t o.1)

tail_in_order : (c : Content) (x : Identifier) (ys : List Identifier) → IsInOrder c (x ∷ ys) → IsInOrder c ys
tail_in_order c x [] o = tt
tail_in_order c x (y ∷ ys) o = o.1

-- ---- there is one order list at most

path_of : Content → Identifier → Path
path_of c id = unwrap_or (root_path c id) []

complete-placed : (c : Content) (id : Identifier) → is_complete c id ≡ true → IsPlaced c id (path_of c id)
unfolding path_of
complete-placed c id h = grind (arith, λ (p : Path) (e : root_path c id ≡ Some p). root_path-is {c = c} {id = id} {p = p} e)

placed-complete : (c : Content) (id : Identifier) (p : Path) → IsPlaced c id p → is_complete c id ≡ true
placed-complete c id p h = (λ k. not (h.element k) && is_some (is-root_path h.path k))

entry : Content → Identifier → Path × Identifier
entry c id = (path_of c id, id)

entries_of : (c : Content) (xs : List Identifier) → AllByRecursion (λ id. IsPlaced c id (path_of c id)) xs → filter_map (placed c) xs ≡ map (entry c) xs
unfolding entry
entries_of c [] h = refl
entries_of c (x ∷ xs) h = λ k. cons_option (is-placed c x (path_of c x) h.0 k) (entries_of c xs h.1 k)

below_of : (c : Content) (x : Identifier) (ys : List Identifier) → AllByRecursion (Precedes c x) ys → T (below_all path_cmp (path_of c x) (map (entry c) ys))
unfolding entry path_of
below_of c x [] h = tt
below_of c x (y ∷ ys) h =
    let less : path_cmp (unwrap_or (root_path c x) []) (unwrap_or (root_path c y) []) ≡ Less =
    (λ k. path_cmp (unwrap_or ((h.0).path_here k) []) (unwrap_or ((h.0).path_there k) [])) ∙ (h.0).before in
    subst (λ o. T (is_lt o && below_all path_cmp (unwrap_or (root_path c x) []) (map (entry c) ys))) (sym less) (below_of c x ys h.1)

sorted_of : (c : Content) (xs : List Identifier) → IsInOrder c xs → T (is_sorted path_cmp (map (entry c) xs))
unfolding entry
sorted_of c [] o = tt
sorted_of c (x ∷ xs) o = both_hold (below_all path_cmp (path_of c x) (map (entry c) xs)) (is_sorted path_cmp (map (entry c) xs)) (below_of c x xs (precedes_later c x xs o)) (sorted_of c xs (tail_in_order c x xs o))

ids_of_entries : (c : Content) (xs : List Identifier) → map (λ (e : Path × Identifier). e.1) (map (entry c) xs) ≡ xs
unfolding entry
ids_of_entries c [] = refl
ids_of_entries c (x ∷ xs) = ap (λ r. x ∷ r) (ids_of_entries c xs)

pub order_unique : (c : Content) (xs : List Identifier) → IsOrderList c xs → xs ≡ order c
order_unique c xs w =
    let all : AllByRecursion (λ id. IsPlaced c id (path_of c id)) xs = all_members (λ id. IsPlaced c id (path_of c id)) xs (λ q m. complete-placed c q (sym (w.elements q) ∙ m)) in
    let es : List (Path × Identifier) = map (entry c) xs in
    sym (ids_of_entries c xs)
    ∙ order_is c es (sorted_of c xs w.in_order)
    (λ p id h. find-placed c xs p id (ap (find path_cmp p) (entries_of c xs all) ∙ h))
    (λ p id h. ap (find path_cmp p) (sym (entries_of c xs all)) ∙ placed-find c xs p id h (w.elements id ∙ placed-complete c id p h))

-- each element stands in it once
pub order_distinct : (c : Content) (xs : List Identifier) → IsInOrder c xs → IsDistinct is xs
unfolding IsDistinct
order_distinct c [] o = tt
order_distinct c (x ∷ xs) o = (apart xs (precedes_later c x xs o), order_distinct c xs (tail_in_order c x xs o))
  where
    apart : (ys : List Identifier) → AllByRecursion (Precedes c x) ys → AllByRecursion (λ y. is x y ≡ false) ys
    apart [] h = tt
    apart (y ∷ ys) h = (
      false_from_ne_true (is x y) (λ t. precedes_irreflexive c x (subst (λ z. Precedes c x z) (sym (same_id x y t)) h.0)),
      apart ys h.1,
    )

-- ---- and the function gives it

found_value : (es : List (Path × Identifier)) (p : Path) (id : Identifier) → find path_cmp p es ≡ Some id → list_any (is id) (map (λ e. e.1) es) ≡ true
found_value [] p id h = absurd (none-some _ h)
found_value (e ∷ es) p id h = grind (arith, found_value es p id, is_itself id)

value_complete : (c : Content) (es : List (Path × Identifier)) (id : Identifier) → AllByRecursion (λ (e : Path × Identifier). IsPlaced c e.1 e.0) es → list_any (is id) (map (λ e. e.1) es) ≡ true → is_complete c id ≡ true
value_complete c [] id h m = absurd (true≢false (sym m))
value_complete c (e ∷ es) id h m = grind (arith, value_complete c es id h.1, same_id id e.1, placed-complete c e.1 e.0 h.0)

in_order_of : (c : Content) (es : List (Path × Identifier)) → AllByRecursion (λ (e : Path × Identifier). IsPlaced c e.1 e.0) es → T (is_sorted path_cmp es) → IsInOrder c (map (λ e. e.1) es)
in_order_of c [] h s = tt
in_order_of c (e ∷ []) h s = tt
in_order_of c (e ∷ f ∷ es) h s =
    let parts : T (below_all path_cmp e.0 (f ∷ es)) × T (is_sorted path_cmp (f ∷ es)) = both_so (below_all path_cmp e.0 (f ∷ es)) (is_sorted path_cmp (f ∷ es)) s in
    let first : T (is_lt (path_cmp e.0 f.0)) × T (below_all path_cmp e.0 es) = both_so (is_lt (path_cmp e.0 f.0)) (below_all path_cmp e.0 es) parts.0 in (
      record { here = e.0; there = f.0; path_here = is-root_path (h.0).path; path_there = is-root_path (h.1.0).path; before = less_of (path_cmp e.0 f.0) first.0 },
      in_order_of c (f ∷ es) h.1 parts.1,
    )

pub order_list : (c : Content) → IsOrderList c (order c)
order_list c = record {
  elements = λ id. both_ways (list_any (is id) (order c)) (is_complete c id)
      (value_complete c (finite_map.entries (by_path c)) id (entries_placed c))
      (λ h. let s : IsPlaced c id (path_of c id) = complete-placed c id h in
      found_value (finite_map.entries (by_path c)) (path_of c id) id (sym (finite_map.get-entries (by_path c) (path_of c id)) ∙ by_path-get c (path_of c id) id s));
  in_order = in_order_of c (finite_map.entries (by_path c)) (entries_placed c) (finite_map.entries_sorted (by_path c));
}
