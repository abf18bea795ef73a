-- What lists of elements read as, where elements are put in; and what the lists of an edit's operations have.
use Rattle.rga_doc.proofs.Prelude.{◌≡◌, ℕ, zero, suc, ◌+◌, ◌<◌, ◌≤◌, true, false, cond, not, ◌&&◌, ◌||◌, List, [], ◌∷◌, ◌++◌, map, filter, take, drop, length, refl, sym, ap, ◌∙◌, subst, arith, true≢false, append-nil, Option, Some, None, option_or}
use Rattle.rga_doc.proofs.Prelude.{list_any, AllByRecursion, filter_map, cons_option, or_parts, Identifier, identifier, id_cmp, is_id, is_root, Content, element, clock_of, single, content_of, join, is_visible, change_after}
use Rattle.rga_doc.proofs.Prelude.{without, Op, Insert, Delete, is, is_itself, is_swap, is_id-same, is_id-is, all_map, get-join, contains-join, filtered, get-single, contains-single, chain, new_ids, put_row_behind, distinct_elements}
use Rattle.rga_doc.proofs.Prelude.{restorations, revert_operations, inserted_elements, deleted_elements}
use Rattle.std.specs.List.{IsDistinct}
use Rattle.std.specs.FinMap as finite_map
use Rattle.std.specs.FinSet as finite_set

abbrev pub Reading : Type 0
Reading = Identifier → Option ℕ

-- ---- readings of lists

pub reads_same : (p q : Reading) (xs : List Identifier) → AllByRecursion (λ x. p x ≡ q x) xs → filter_map p xs ≡ filter_map q xs
reads_same p q [] h = refl
reads_same p q (x ∷ xs) h = λ k. cons_option (h.0 k) (reads_same p q xs h.1 k)

reads_row : (p : Reading) (row xs : List Identifier) → AllByRecursion (λ x. p x ≡ None) row → filter_map p (row ++ xs) ≡ filter_map p xs
reads_row p [] xs h = refl
reads_row p (r ∷ row) xs h = ap (λ o. cons_option o (filter_map p (row ++ xs))) h.0 ∙ reads_row p row xs h.1

reads_after : (p : Reading) (after : Identifier) (row xs : List Identifier) → AllByRecursion (λ x. p x ≡ None) row → filter_map p (change_after after (λ ys. row ++ ys) xs) ≡ filter_map p xs
reads_after p after row [] h = refl
reads_after p after row (x ∷ xs) h = grind (arith, is_id, filter_map, change_after, cons_option, true, reads_row, false, reads_after p after row xs h)

-- a row that is not read changes nothing
pub reads_behind : (p : Reading) (after : Identifier) (row xs : List Identifier) → AllByRecursion (λ x. p x ≡ None) row → filter_map p (put_row_behind after row xs) ≡ filter_map p xs
reads_behind p after row xs h = grind (arith, is_root, filter_map, change_after, true, reads_row, false, reads_after)

-- the reading where one element reads as nothing and another one as the character
abbrev pub moved : Identifier → Identifier → ℕ → Reading → Reading
moved x y ch p id = cond (is id x) None (cond (is id y) (Some ch) (p id))

moved_elsewhere : (x y : Identifier) (ch : ℕ) (p : Reading) (id : Identifier) → is id x ≡ false → is id y ≡ false → moved x y ch p id ≡ p id
moved_elsewhere x y ch p id a b = λ k. cond (a k) None (cond (b k) (Some ch) (p id))

apart_all : (x : Identifier) (xs : List Identifier) → AllByRecursion (λ z. is x z ≡ false) xs → AllByRecursion (λ z. is z x ≡ false) xs
apart_all x xs h = all_map (λ z. is x z ≡ false) (λ z. is z x ≡ false) (λ z f. is_swap z x ∙ f) xs h

absent_all : (y : Identifier) (xs : List Identifier) → list_any (is y) xs ≡ false → AllByRecursion (λ z. is z y ≡ false) xs
absent_all y [] h = tt
absent_all y (z ∷ zs) h = let parts : (is y z ≡ false) × (list_any (is y) zs ≡ false) = or_parts (is y z) (list_any (is y) zs) h in (is_swap z y ∙ parts.0, absent_all y zs parts.1)

elsewhere_all : (x y : Identifier) (ch : ℕ) (p : Reading) (xs : List Identifier) → AllByRecursion (λ z. is z x ≡ false) xs → AllByRecursion (λ z. is z y ≡ false) xs → AllByRecursion (λ z. moved x y ch p z ≡ p z) xs
elsewhere_all x y ch p [] a b = tt
elsewhere_all x y ch p (z ∷ zs) a b = (moved_elsewhere x y ch p z a.0 b.0, elsewhere_all x y ch p zs a.1 b.1)

-- where an element is put directly behind another one and read in its place, the list reads as before
pub reads_moved : (x y : Identifier) (ch : ℕ) (p : Reading) (xs : List Identifier) → list_any (is x) xs ≡ true → IsDistinct is xs → list_any (is y) xs ≡ false → is y x ≡ false → p x ≡ Some ch → filter_map (moved x y ch p) (change_after x (λ ys. y ∷ ys) xs) ≡ filter_map p xs
unfolding IsDistinct
reads_moved x y ch p [] there distinct absent other at = absurd (true≢false (sym there))
reads_moved x y ch p (z ∷ zs) there distinct absent other at =
    let gone : (is y z ≡ false) × (list_any (is y) zs ≡ false) = or_parts (is y z) (list_any (is y) zs) absent in
    elim (is_id z x) as (λ b. is_id z x ≡ b → filter_map (moved x y ch p) (cond b (z ∷ y ∷ zs) (z ∷ change_after x (λ ys. y ∷ ys) zs)) ≡ cons_option (p z) (filter_map p zs)) [
      | true ↦ λ t.
          let same : z ≡ x = is_id-is z x t in
          let rest : filter_map (moved x y ch p) zs ≡ filter_map p zs =
          reads_same (moved x y ch p) p zs (elsewhere_all x y ch p zs (apart_all x zs (subst (λ w. AllByRecursion (λ v. is w v ≡ false) zs) same distinct.0)) (absent_all y zs gone.1)) in
          let first : moved x y ch p z ≡ None = ap (λ b. cond b None (cond (is z y) (Some ch) (p z))) (ap (λ w. is w x) same ∙ is_itself x) in
          let second : moved x y ch p y ≡ Some ch = (λ k. cond (other k) None (cond (is_itself y k) (Some ch) (p y))) in
          (λ k. cons_option (first k) (cons_option (second k) (rest k)))
          ∙ ap (λ o. cons_option o (filter_map p zs)) (sym (ap p same ∙ at))
      | false ↦ λ f.
          let apart : is z x ≡ false = is_swap z x ∙ sym (is_id-same z x) ∙ f in
          let here : list_any (is x) zs ≡ true = sym (ap (λ b. b || list_any (is x) zs) (sym (is_id-same z x) ∙ f)) ∙ there in
          (λ k. cons_option (moved_elsewhere x y ch p z apart (is_swap z y ∙ gone.0) k) (reads_moved x y ch p zs here distinct.1 gone.1 other at k))
    ] refl

-- ---- counters

pub apart_by_counter : (a b : Identifier) → a.counter < b.counter → is a b ≡ false
apart_by_counter a b h = grind arith

abbrev pub AreNewer : ℕ → List Identifier → Type 0
AreNewer n ids = AllByRecursion (λ (id : Identifier). n < id.counter) ids

pub not_among_newer : (n : ℕ) (a : Identifier) (ids : List Identifier) → a.counter ≤ n → AreNewer n ids → list_any (is a) ids ≡ false
not_among_newer n a [] low h = refl
not_among_newer n a (id ∷ ids) low h = λ k. apart_by_counter a id (omega (arith, low, h.0)) k || not_among_newer n a ids low h.1 k

pub newer_still : (m n : ℕ) (ids : List Identifier) → m ≤ n → AreNewer n ids → AreNewer m ids
newer_still m n ids low h = all_map (λ (id : Identifier). n < id.counter) (λ (id : Identifier). m < id.counter) (λ id g. omega (arith, low, g)) ids h

pub new_ids-newer : (replica last : ℕ) (put : List ℕ) → AreNewer last (new_ids replica last put)
new_ids-newer replica last [] = tt
new_ids-newer replica last (ch ∷ put) = (omega arith, newer_still last (last + 1) (new_ids replica (last + 1) put) (omega arith) (new_ids-newer replica (last + 1) put))

-- ---- what operations insert and delete

pub inserted_elements-append : (xs ys : List Op) → inserted_elements (xs ++ ys) ≡ inserted_elements xs ++ inserted_elements ys
inserted_elements-append [] ys = refl
inserted_elements-append (Insert id parent ch ∷ xs) ys = ap (λ r. id ∷ r) (inserted_elements-append xs ys)
inserted_elements-append (Delete id ∷ xs) ys = inserted_elements-append xs ys

pub deleted_elements-append : (xs ys : List Op) → deleted_elements (xs ++ ys) ≡ deleted_elements xs ++ deleted_elements ys
deleted_elements-append [] ys = refl
deleted_elements-append (Insert id parent ch ∷ xs) ys = deleted_elements-append xs ys
deleted_elements-append (Delete id ∷ xs) ys = ap (λ r. id ∷ r) (deleted_elements-append xs ys)

pub inserted_elements-deletions : (ids : List Identifier) → inserted_elements (map Delete ids) ≡ []
inserted_elements-deletions [] = refl
inserted_elements-deletions (id ∷ ids) = inserted_elements-deletions ids

pub deleted_elements-deletions : (ids : List Identifier) → deleted_elements (map Delete ids) ≡ ids
deleted_elements-deletions [] = refl
deleted_elements-deletions (id ∷ ids) = ap (λ r. id ∷ r) (deleted_elements-deletions ids)

pub inserted_elements-chain : (replica last : ℕ) (after : Identifier) (put : List ℕ) → inserted_elements (chain replica last after put) ≡ new_ids replica last put
inserted_elements-chain replica last after [] = refl
inserted_elements-chain replica last after (ch ∷ put) = ap (λ r. identifier (last + 1) replica ∷ r) (inserted_elements-chain replica (last + 1) (identifier (last + 1) replica) put)

pub deleted_elements-chain : (replica last : ℕ) (after : Identifier) (put : List ℕ) → deleted_elements (chain replica last after put) ≡ []
deleted_elements-chain replica last after [] = refl
deleted_elements-chain replica last after (ch ∷ put) = deleted_elements-chain replica (last + 1) (identifier (last + 1) replica) put

pub contains-operations : (ops : List Op) (q : Identifier) → finite_set.contains (content_of ops).deleted q ≡ list_any (is q) (deleted_elements ops)
contains-operations [] q = finite_set.contains-empty id_cmp q
contains-operations (Insert id parent ch ∷ ops) q =
    contains-join (single (Insert id parent ch)) (content_of ops) q
    ∙ (λ k. finite_set.contains-empty id_cmp q k || contains-operations ops q k)
contains-operations (Delete id ∷ ops) q =
    contains-join (single (Delete id)) (content_of ops) q
    ∙ (λ k. contains-single id q k || contains-operations ops q k)

-- what no operation inserts is not inserted
pub get-operations_absent : (ops : List Op) (q : Identifier) → list_any (is q) (inserted_elements ops) ≡ false → finite_map.get (content_of ops).inserted q ≡ None
get-operations_absent [] q h = finite_map.get-empty id_cmp q
get-operations_absent (Insert id parent ch ∷ ops) q h =
    let parts : (is q id ≡ false) × (list_any (is q) (inserted_elements ops) ≡ false) = or_parts (is q id) (list_any (is q) (inserted_elements ops)) h in
    get-join (single (Insert id parent ch)) (content_of ops) q
    ∙ (λ k. option_or (get-single id parent ch q k) (get-operations_absent ops q parts.1 k))
    ∙ ap (λ b. option_or (cond b (Some (element parent ch)) None) None) parts.0
get-operations_absent (Delete id ∷ ops) q h =
    get-join (single (Delete id)) (content_of ops) q
    ∙ (λ k. option_or (finite_map.get-empty id_cmp q k) (get-operations_absent ops q h k))

-- ---- parts of lists

pub all_take : (P : Identifier → Type 0) (n : ℕ) (xs : List Identifier) → AllByRecursion P xs → AllByRecursion P (take n xs)
all_take P (suc n) (x ∷ xs) h = (h.0, all_take P n xs h.1)
all_take P n xs h = tt

pub all_drop : (P : Identifier → Type 0) (n : ℕ) (xs : List Identifier) → AllByRecursion P xs → AllByRecursion P (drop n xs)
all_drop P zero xs h = h
all_drop P (suc n) [] h = tt
all_drop P (suc n) (x ∷ xs) h = all_drop P n xs h.1

-- ---- members

pub once_has : (id : Identifier) (xs : List Identifier) → list_any (is id) xs ≡ true → list_any (is id) (distinct_elements xs) ≡ true
once_has id [] m = m
once_has id (x ∷ xs) m = elim (is id x) as (λ b. is id x ≡ b → (b || list_any (is id) xs) ≡ true → (b || list_any (is id) (without x (distinct_elements xs))) ≡ true) [
  | true ↦ λ t m. refl
  | false ↦ λ f m. filtered (λ z. not (is_id z x)) id (distinct_elements xs) ∙ (λ k. once_has id xs m k && not ((is_id-same id x ∙ is_swap x id ∙ f) k))
] refl m

pub deleted_elements-restorations : (replica last : ℕ) (back : List (Identifier × ℕ)) → deleted_elements (restorations replica last back) ≡ []
deleted_elements-restorations replica last [] = refl
deleted_elements-restorations replica last (b ∷ back) = deleted_elements-restorations replica (last + 1) back

pub deleted_elements-revert : (ids : List Identifier) (replica last : ℕ) (back : List (Identifier × ℕ)) → deleted_elements (map Delete ids ++ restorations replica last back) ≡ ids
deleted_elements-revert ids replica last back = grind (arith, deleted_elements-append, map, restorations, deleted_elements-deletions, deleted_elements-restorations, append-nil)

-- what is deleted once a revert was taken
pub deleted_by_revert : (c : Content) (ids : List Identifier) (replica last : ℕ) (back : List (Identifier × ℕ)) (q : Identifier) → finite_set.contains (join c (content_of (map Delete ids ++ restorations replica last back))).deleted q ≡ (finite_set.contains c.deleted q || list_any (is q) ids)
deleted_by_revert c ids replica last back q = grind (arith, map, restorations, contains-join, content_of, contains-operations, list_any, is, deleted_elements-revert)

-- ---- how many elements are inserted

pub one_more : (op : Op) (ops : List Op) → length (inserted_elements (op ∷ ops)) ≡ length (inserted_elements (op ∷ [])) + length (inserted_elements ops)
one_more (Delete id) ops = omega arith
one_more (Insert id parent ch) ops = omega arith

-- one for each that is restored
pub as_many_inserted : (replica : ℕ) (c : Content) (gone : List Identifier) (back : List (Identifier × ℕ)) → length (inserted_elements (revert_operations replica c gone back)) ≡ length back
as_many_inserted replica c gone back =
    let ids : List Identifier = distinct_elements (filter (is_visible c) gone) in
    ap length (inserted_elements-append (map Delete ids) (restorations replica (clock_of c) back) ∙ ap (λ xs. xs ++ inserted_elements (restorations replica (clock_of c) back)) (inserted_elements-deletions ids))
    ∙ each (clock_of c) back
  where
    each : (last : ℕ) (back : List (Identifier × ℕ)) → length (inserted_elements (restorations replica last back)) ≡ length back
    each last [] = refl
    each last (b ∷ back) = ap suc (each (last + 1) back)
