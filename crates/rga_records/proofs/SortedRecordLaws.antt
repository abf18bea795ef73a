-- Records stand in order: so what they stand for is listed as they stand.
use Rattle.std.proofs.Common.{◌≡◌, ◌+◌, Bool, true, false, cond, T, List, [], ◌∷◌, filter, get_or, sym, ap, ◌∙◌, subst, arith}
use Rattle.std.specs.Prelude.{Option, Some, None}
use Rattle.std.specs.Option.{option_map}
use Rattle.std.specs.Ordering.{is_lt, ordering_reverse}
use Rattle.std.specs.declared.cmp.Ordering.TheVariants.{Less}
use Rattle.std.specs.List.{filter_map, cons_option, IsDistinct, AllByRecursion}
use Rattle.std.specs.List.Sorted.{IsSorted, IsStrictlySortedBy}
use Rattle.std.specs.Map.{keys_of}
use Rattle.std.specs.FinMap as finite_map
use Rattle.std.specs.FinMap.{FinMap, is_sorted}
use Rattle.std.specs.FinMap.Entries.{below_all, same_entries}
use Rattle.std.specs.FinSet as finite_set
use Rattle.std.proofs.lemmas.List.Sorted.{IsPermutation-refl}
use Rattle.std.proofs.lemmas.Map.Keys.{sorted_head, sorted_tail, IsDistinct-from_sorted, Less-from_sorted}
use Rattle.rga_ops.specs.Identifier.{Identifier, id_cmp}
use Rattle.rga_ops.specs.Content.{Element}
use Rattle.rga_ops.specs.Operations.{rising}
use Rattle.rga_ops.proofs.IdentifierLaws.{ids_total, ids_exact, is}
use Rattle.rga_ops.proofs.SortedLaws.{both_hold}
use Rattle.rga_store.proofs.SortedIdLaws.{sorted_rising}
use Rattle.rga_pages.specs.declared.entry.Record.{Record}
use Rattle.rga_records.specs.Records.{Entries, element_of_record, insertion_of_record, ids_of_records_where, marked_record_ids, content_of_records, AreOrdered}

abbrev pub Insertions : Type 0
Insertions = List (Identifier × Element)

-- the insertion of a record, if it has an element, before others
abbrev with_first : Identifier → Option Element → Insertions → Insertions
with_first k o xs = cons_option (option_map (λ x. (k, x)) o) xs

-- ---- insertions

first_below : (k first : Identifier) (o : Option Element) (xs : Insertions) → id_cmp k first ≡ Less → T (below_all id_cmp k xs) → T (below_all id_cmp k (with_first first o xs))
first_below k first None xs p h = h
first_below k first (Some x) xs p h = both_hold (is_lt (id_cmp k first)) (below_all id_cmp k xs) (subst (λ r. T (is_lt r)) (sym p) tt) h

insertions_below : (k : Identifier) (es : Entries) → AllByRecursion (λ y. id_cmp k y ≡ Less) (keys_of es) → T (below_all id_cmp k (filter_map insertion_of_record es))
insertions_below k [] h = tt
insertions_below k (e ∷ es) h = first_below k e.0 (element_of_record e.1) (filter_map insertion_of_record es) h.0 (insertions_below k es h.1)

first_sorted : (first : Identifier) (o : Option Element) (xs : Insertions) → T (below_all id_cmp first xs) → T (is_sorted id_cmp xs) → T (is_sorted id_cmp (with_first first o xs))
first_sorted first None xs b h = h
first_sorted first (Some x) xs b h = both_hold (below_all id_cmp first xs) (is_sorted id_cmp xs) b h

pub insertions_sorted : (es : Entries) → AreOrdered es → T (is_sorted id_cmp (filter_map insertion_of_record es))
insertions_sorted [] h = tt
insertions_sorted (e ∷ es) h =
    first_sorted e.0 (element_of_record e.1) (filter_map insertion_of_record es) (insertions_below e.0 es (sorted_head id_cmp e.0 (keys_of es) h)) (insertions_sorted es (sorted_tail id_cmp e.0 (keys_of es) h))

pub insertions_listed : (es : Entries) → AreOrdered es → finite_map.entries (content_of_records es).inserted ≡ filter_map insertion_of_record es
insertions_listed es h =
    let m : FinMap id_cmp Element = (content_of_records es).inserted in
    same_entries id_cmp ids_total ids_exact (finite_map.entries m) (filter_map insertion_of_record es) (finite_map.entries_sorted m) (insertions_sorted es h)
    (λ q. sym (finite_map.get-entries m q) ∙ finite_map.get-from_entries ids_total (filter_map insertion_of_record es) q)

-- ---- identifiers

module _ (test : Record → Bool) where
  ids_all : (P : Identifier → Type 0) (es : Entries) → AllByRecursion P (keys_of es) → AllByRecursion P (ids_of_records_where test es)
  ids_all P [] h = tt
  ids_all P (e ∷ es) h = elim (test e.1) as (λ b. AllByRecursion P (keys_of (cond b (e ∷ filter (λ d. test d.1) es) (filter (λ d. test d.1) es)))) [ true ↦ (h.0, ids_all P es h.1) | false ↦ ids_all P es h.1 ]

  pub ids_rise : (es : Entries) → AreOrdered es → IsStrictlySortedBy id_cmp (ids_of_records_where test es)
  unfolding IsStrictlySortedBy
  ids_rise [] h = tt
  ids_rise (e ∷ es) h = elim (test e.1) as (λ b. IsStrictlySortedBy id_cmp (keys_of (cond b (e ∷ filter (λ d. test d.1) es) (filter (λ d. test d.1) es)))) [ true ↦ (ids_all (λ y. id_cmp e.0 y ≡ Less) es h.0, ids_rise es h.1) | false ↦ ids_rise es h.1 ]

  -- none is there twice
  pub ids_distinct : (es : Entries) → AreOrdered es → IsDistinct is (ids_of_records_where test es)
  ids_distinct es h = IsDistinct-from_sorted id_cmp (ids_of_records_where test es) (ids_rise es h)

-- ---- deletions

pub sorted_of_rising : (xs : List Identifier) → IsStrictlySortedBy id_cmp xs → IsSorted id_cmp xs
sorted_of_rising xs h = λ k d low l.
    ap is_lt (ids_total.antisymm (get_or xs (k + 1) d) (get_or xs k d) ∙ ap ordering_reverse (Less-from_sorted id_cmp xs k (k + 1) d h (omega arith) l))

pub deletions_listed : (es : Entries) → AreOrdered es → rising (finite_set.items (content_of_records es).deleted) ≡ marked_record_ids es
deletions_listed es h =
    let marked : List Identifier = marked_record_ids es in
    sym (sorted_rising (finite_set.items (content_of_records es).deleted) marked marked (IsPermutation-refl marked)
    (sorted_of_rising marked (ids_rise (λ v. v.deleted) es h)) (ids_distinct (λ v. v.deleted) es h)
    (λ q. sym (finite_set.contains-from_list ids_total marked q) ∙ finite_set.contains-items (finite_set.from_list marked) q))
