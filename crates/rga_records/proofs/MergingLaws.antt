-- What two sets of records know together, and where they conflict, record by record.
use Rattle.std.proofs.Common.{rules, ◌≡◌, suc, ◌||◌, ◌+◌, ◌≤◌, Bool, true, false, cond, not, List, [], ◌∷◌, ◌++◌, map, filter, length, is_some, refl, sym, ap, ◌∙◌, arith, true≢false}
use Rattle.std.specs.Prelude.{Some, None, find}
use Rattle.std.specs.Option.{option_map_or}
use Rattle.std.specs.List.{filter_map, AllByRecursion}
use Rattle.std.specs.FinMap as finite_map
use Rattle.std.specs.FinMap.{find as find_key}
use Rattle.std.specs.FinSet as finite_set
use Rattle.std.proofs.lemmas.List.Sums.{length-filter, count_by-le-length}
use Rattle.rga_ops.specs.Identifier.{Identifier, id_cmp}
use Rattle.rga_ops.specs.Content.{Element, Content, nothing, known_ids, join}
use Rattle.rga_ops.specs.Operations.{insertion_of}
use Rattle.rga_ops.specs.ListAnswer.{has_another, is_conflict, least_conflict}
use Rattle.rga_ops.proofs.IdentifierLaws.{ids_total}
use Rattle.rga_ops.proofs.AnswerLaws.{contains-known}
use Rattle.rga_ops.proofs.ContentLaws.{nothing_join}
use Rattle.rga_ops.proofs.CountLaws.{len-known_join}
use Rattle.rga_ops.proofs.KnownLaws.{known_nothing}
use Rattle.rga_ops.proofs.MemberLaws.{all_map}
use Rattle.rga_ops.proofs.MergeLaws.{least_conflict_swap}
use Rattle.rga_ops.proofs.SortedLaws.{each_found}
use Rattle.rga_ops.specs.declared.op.Op.TheVariants.{Insert}
use Rattle.rga_records.specs.Records.{Entries, insertion_of_record, ids_of_records_where, is_meaningful, first_conflicting, unknown_ids, content_of_records, AreOrdered}
use Rattle.rga_records.proofs.RecordLaws.{apart_of, any_where, known_at}
use Rattle.rga_records.proofs.SortedRecordLaws.{Insertions, insertions_sorted, insertions_listed, ids_distinct}

-- ---- the least conflict

-- none in some insertions: so the first is behind them
pub none_first : (c : Content) (xs ys : Insertions) → first_conflicting c xs ≡ None → first_conflicting c (xs ++ ys) ≡ first_conflicting c ys
none_first c [] ys h = refl
none_first c (x ∷ xs) ys h =
    elim (has_another c (insertion_of x)) as (λ b. cond b (Some x.0) (first_conflicting c xs) ≡ None → cond b (Some x.0) (first_conflicting c (xs ++ ys)) ≡ first_conflicting c ys) [
      | true ↦ λ k. absurd (true≢false (ap is_some k))
      | false ↦ λ k. none_first c xs ys k
    ] h

-- one in some insertions is the first of more
pub some_first : (c : Content) (xs ys : Insertions) (id : Identifier) → first_conflicting c xs ≡ Some id → first_conflicting c (xs ++ ys) ≡ Some id
some_first c [] ys id h = absurd (true≢false (sym (ap is_some h)))
some_first c (x ∷ xs) ys id h =
    elim (has_another c (insertion_of x)) as (λ b. cond b (Some x.0) (first_conflicting c xs) ≡ Some id → cond b (Some x.0) (first_conflicting c (xs ++ ys)) ≡ Some id) [
      | true ↦ λ k. k
      | false ↦ λ k. some_first c xs ys id k
    ] h

found_first : (c : Content) (p : Identifier → Bool) (xs : Insertions) → AllByRecursion (λ x. p x.0 ≡ has_another c (insertion_of x)) xs → find p (map (λ x. x.0) xs) ≡ first_conflicting c xs
found_first c p [] h = refl
found_first c p (x ∷ xs) h = λ k. cond (h.0 k) (Some x.0) (found_first c p xs h.1 k)

-- the insertions rise: so the first conflict is the least
pub least_is_first : (c : Content) (es : Entries) → AreOrdered es → first_conflicting c (filter_map insertion_of_record es) ≡ least_conflict c (content_of_records es)
least_is_first c es h =
    let d : Content = content_of_records es in
    let xs : Insertions = filter_map insertion_of_record es in
    sym (least_conflict_swap c d ∙ ap (λ ys. find (is_conflict d c) (map (λ x. x.0) ys)) (insertions_listed es h)
    ∙ found_first c (is_conflict d c) xs (all_map (λ (x : Identifier × Element). find_key id_cmp x.0 xs ≡ Some x.1) (λ x. is_conflict d c x.0 ≡ has_another c (insertion_of x))
    (λ x found. ap (λ o. option_map_or (λ y. has_another c (Insert x.0 y.parent y.ch)) o false) (finite_map.get-from_entries ids_total xs x.0 ∙ found)) xs
    (each_found id_cmp ids_total xs (insertions_sorted es h))))

-- ---- what is not known yet

-- the join knows these too, and nothing else
pub unknown_counted : (c : Content) (es : Entries) → AreOrdered es → finite_set.len (known_ids (join c (content_of_records es))) ≡ finite_set.len (known_ids c) + length (unknown_ids c es)
unknown_counted c es h = search (rules, len-known_join, ids_distinct, known_at, any_where, apart_of)

-- they are no more than the records know
pub unknown_few : (c : Content) (es : Entries) → AreOrdered es → length (unknown_ids c es) ≤ finite_set.len (known_ids (content_of_records es))
unknown_few c es h =
    let known : finite_set.len (known_ids (content_of_records es)) ≡ finite_set.len (known_ids nothing) + length (unknown_ids nothing es) =
    ap (λ d. finite_set.len (known_ids d)) (sym (nothing_join (content_of_records es))) ∙ unknown_counted nothing es h in
    let all : length (unknown_ids nothing es) ≡ length (ids_of_records_where is_meaningful es) = all_left (ids_of_records_where is_meaningful es) in
    let none : finite_set.len (known_ids nothing) ≡ 0 = known_nothing in
    omega (arith, known, all, none, fewer (ids_of_records_where is_meaningful es))
  where
    fewer : (xs : List Identifier) → length (filter (λ q. not (finite_set.contains (known_ids c) q)) xs) ≤ length xs
    fewer xs =
        let p : Identifier → Bool = λ q. not (finite_set.contains (known_ids c) q) in
        omega (arith, length-filter p xs, count_by-le-length p xs)

    empty_there : (q : Identifier) → finite_map.get nothing.inserted q ≡ None
    empty_there q = finite_map.get-empty id_cmp q

    none : (q : Identifier) → not (finite_set.contains (known_ids nothing) q) ≡ true
    none q = ap not (contains-known nothing q ∙ (λ k. is_some (empty_there q k) || finite_set.contains-empty id_cmp q k))

    all_left : (xs : List Identifier) → length (filter (λ q. not (finite_set.contains (known_ids nothing) q)) xs) ≡ length xs
    all_left [] = refl
    all_left (x ∷ xs) =
        ap (λ b. length (cond b (x ∷ filter (λ q. not (finite_set.contains (known_ids nothing) q)) xs) (filter (λ q. not (finite_set.contains (known_ids nothing) q)) xs))) (none x)
        ∙ ap (λ n. suc n) (all_left xs)
