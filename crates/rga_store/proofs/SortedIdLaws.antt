-- Identifiers that rise are known by which they are: so what is sorted is the list of a map's keys, or of the members of a set in their order.
use Rattle.rga_store.proofs.Prelude.{◌≡◌, ℕ, ◌+◌, ◌<◌, Bool, true, false, cond, ◌&&◌, ◌||◌, T, List, [], ◌∷◌, map, length, get_or, refl, sym, ap, ◌∙◌, arith, true≢false, Some, None, list_any, IsDistinct, AllByRecursion, Identifier, root, id_cmp, ids_total, ids_exact, is, is_swap, alone, rising, any-rising}
use Rattle.std.specs.Ordering.{is_lt, is_eq, ordering_reverse}
use Rattle.std.specs.declared.cmp.Ordering.{Ordering}
use Rattle.std.specs.declared.cmp.Ordering.TheVariants.{Less, Equal, Greater}
use Rattle.std.specs.List.Sorted.{IsSorted, IsPermutation, IsStrictlySortedBy}
use Rattle.std.specs.FinMap as finite_map
use Rattle.std.specs.FinMap.{FinMap, find, is_sorted}
use Rattle.std.specs.FinMap.Entries.{below_all, same_entries}
use Rattle.std.proofs.lemmas.List.Sorted.{list_any-IsPermutation}
use Rattle.std.proofs.lemmas.Map.Keys.{sorted_from_all_adjacent, apart_from_distinct, IsDistinct-IsPermutation}
use Rattle.rga_ops.proofs.SortedLaws.{both_so, both_hold, less_of}
use Rattle.rga_store.specs.Rising.{IsRising}

-- ---- what is sorted and distinct rises

not_later : (o : Ordering) → is_lt (ordering_reverse o) ≡ false → is_eq o ≡ false → o ≡ Less
not_later Less p q = refl
not_later Equal p q = absurd (true≢false q)
not_later Greater p q = absurd (true≢false p)

rising_of : (xs : List Identifier) → IsSorted id_cmp xs → IsDistinct is xs → IsRising xs
rising_of xs sorted distinct = sorted_from_all_adjacent ids_total xs root (λ k l.
    not_later (id_cmp (get_or xs k root) (get_or xs (k + 1) root))
    (ap is_lt (sym (ids_total.antisymm (get_or xs (k + 1) root) (get_or xs k root))) ∙ sorted k root (omega arith) l)
    (apart_from_distinct is xs k (k + 1) root distinct (omega arith) l))

-- ---- lists that rise and have the same members are one

abbrev paired : List Identifier → List (Identifier × Unit {0})
paired = map alone

below_paired : (x : Identifier) (ys : List Identifier) → AllByRecursion (λ y. id_cmp x y ≡ Less) ys → T (below_all id_cmp x (paired ys))
below_paired x [] h = tt
below_paired x (y ∷ ys) h = both_hold (is_lt (id_cmp x y)) (below_all id_cmp x (paired ys)) (is_less h.0) (below_paired x ys h.1)
  where
    is_less : {o : Ordering} → o ≡ Less → T (is_lt o)
    is_less {o} e = Rattle.std.proofs.Common.subst (λ p. T (is_lt p)) (sym e) tt

sorted_paired : (xs : List Identifier) → IsRising xs → T (is_sorted id_cmp (paired xs))
unfolding IsStrictlySortedBy
sorted_paired [] h = tt
sorted_paired (x ∷ xs) h = both_hold (below_all id_cmp x (paired xs)) (is_sorted id_cmp (paired xs)) (below_paired x xs h.0) (sorted_paired xs h.1)

find_paired : (q : Identifier) (xs : List Identifier) → find id_cmp q (paired xs) ≡ cond (list_any (is q) xs) (Some tt) None
find_paired q [] = refl
find_paired q (x ∷ xs) = elim (is q x) as (λ b. cond b (Some tt) (find id_cmp q (paired xs)) ≡ cond (b || list_any (is q) xs) (Some tt) None) [
  | true ↦ refl
  | false ↦ find_paired q xs
]

unpaired : (xs : List Identifier) → map (λ (e : Identifier × Unit {0}). e.0) (paired xs) ≡ xs
unpaired [] = refl
unpaired (x ∷ xs) = ap (λ r. x ∷ r) (unpaired xs)

same_rising : (xs ys : List Identifier) → IsRising xs → IsRising ys → ((q : Identifier) → list_any (is q) xs ≡ list_any (is q) ys) → xs ≡ ys
same_rising xs ys a b h =
    sym (unpaired xs)
    ∙ ap (map (λ (e : Identifier × Unit {0}). e.0)) (same_entries id_cmp ids_total ids_exact (paired xs) (paired ys) (sorted_paired xs a) (sorted_paired ys b)
    (λ q. find_paired q xs ∙ ap (λ t. cond t (Some tt) None) (h q) ∙ sym (find_paired q ys)))
    ∙ unpaired ys

-- ---- the keys of a map rise

keys_below : {A : Type 0} (x : Identifier) (es : List (Identifier × A)) → T (below_all id_cmp x es) → AllByRecursion (λ y. id_cmp x y ≡ Less) (map (λ e. e.0) es)
keys_below x [] h = tt
keys_below x (e ∷ es) h =
    let s : T (is_lt (id_cmp x e.0)) × T (below_all id_cmp x es) = both_so (is_lt (id_cmp x e.0)) (below_all id_cmp x es) h in
    (less_of (id_cmp x e.0) s.0, keys_below x es s.1)

keys_rise : {A : Type 0} (es : List (Identifier × A)) → T (is_sorted id_cmp es) → IsRising (map (λ e. e.0) es)
unfolding IsStrictlySortedBy
keys_rise [] h = tt
keys_rise (e ∷ es) h =
    let s : T (below_all id_cmp e.0 es) × T (is_sorted id_cmp es) = both_so (below_all id_cmp e.0 es) (is_sorted id_cmp es) h in
    (keys_below e.0 es s.0, keys_rise es s.1)

-- ---- so sorting gives them

sorted_is : (xs ys zs : List Identifier) → IsPermutation xs ys → IsSorted id_cmp ys → IsDistinct is xs → IsRising zs → ((q : Identifier) → list_any (is q) xs ≡ list_any (is q) zs) → ys ≡ zs
sorted_is xs ys zs moved sorted distinct rising same =
    same_rising ys zs (rising_of ys sorted (IsDistinct-IsPermutation is is_swap xs ys moved distinct)) rising
    (λ q. sym (list_any-IsPermutation (is q) xs ys moved) ∙ same q)

pub sorted_keys : {A : Type 0} (m : FinMap id_cmp A) (xs ys : List Identifier) → IsPermutation xs ys → IsSorted id_cmp ys → IsDistinct is xs → ((q : Identifier) → list_any (is q) xs ≡ finite_map.contains_key m q) → ys ≡ finite_map.keys m
sorted_keys m xs ys moved sorted distinct same =
    sorted_is xs ys (finite_map.keys m) moved sorted distinct (keys_rise (finite_map.entries m) (finite_map.entries_sorted m)) (λ q. same q ∙ finite_map.contains_key-keys m q)

pub sorted_rising : (ks xs ys : List Identifier) → IsPermutation xs ys → IsSorted id_cmp ys → IsDistinct is xs → ((q : Identifier) → list_any (is q) xs ≡ list_any (is q) ks) → ys ≡ rising ks
sorted_rising ks xs ys moved sorted distinct same =
    sorted_is xs ys (rising ks) moved sorted distinct (keys_rise (finite_map.entries (finite_map.from_entries {R = id_cmp} (map alone ks))) (finite_map.entries_sorted (finite_map.from_entries (map alone ks)))) (λ q. same q ∙ sym (any-rising ks q))
