-- Entries in the order of their identifiers: what is below one, and what a change makes of them.
use Rattle.std.proofs.Common.{◌≡◌, ℕ, is_some, ◌<◌, suc, zero, true, false, cond, [], ◌∷◌, ◌++◌, length, take, slice_index_or, refl, sym, ap, ◌∙◌, arith, true≢false}
use Rattle.std.specs.Prelude.{Some, None}
use Rattle.std.specs.Cmp.{tied_itself, eq_by_cmp_equiv}
use Rattle.std.specs.Ordering.{is_gt, is_lt, is_eq, ordering_reverse, match_ordering}
use Rattle.std.specs.declared.cmp.Ordering.{Ordering}
use Rattle.std.specs.declared.cmp.Ordering.TheVariants.{Less, Equal, Greater}
use Rattle.std.specs.BTreeMap.{insert_entry}
use Rattle.std.specs.List.{AllByRecursion}
use Rattle.std.specs.List.Sorted.{IsStrictlySortedBy}
use Rattle.std.specs.Map.{keys_of, remove_entry, set_value}
use Rattle.std.proofs.lemmas.List.Elements.{All-from_recursion, recursion_from_All}
use Rattle.std.proofs.lemmas.Map.{lookup-remove_entry}
use Rattle.std.proofs.lemmas.Map.Views.{All-keys-insert_entry, All-map-remove_entry}
use Rattle.std.proofs.lemmas.Map.Keys.{IsDistinct-from_sorted}
use Rattle.rga_ops.specs.Identifier.{Identifier, id_cmp}
use Rattle.rga_ops.proofs.IdentifierLaws.{ids_total, ids_exact, is, is_itself, is_swap, same_id}
use Rattle.rga_pages.specs.declared.entry.Record.{Record}
use Rattle.rga_pages.specs.Pages.{Entries, AreOrdered, AreBelow, StartsAbove, Updates, record_of}

-- ---- comparing

pub greater : (o : Ordering) → is_gt o ≡ true → o ≡ Greater
greater Less h = absurd (true≢false (sym h))
greater Equal h = absurd (true≢false (sym h))
greater Greater h = refl

less : (o : Ordering) → is_lt o ≡ true → o ≡ Less
less Less h = refl
less Equal h = absurd (true≢false (sym h))
less Greater h = absurd (true≢false (sym h))

pub not_less : (o : Ordering) → is_gt o ≡ true → is_lt o ≡ false
not_less Less h = absurd (true≢false (sym h))
not_less Equal h = refl
not_less Greater h = refl

pub turn : (a b : Identifier) (o : Ordering) → id_cmp a b ≡ o → id_cmp b a ≡ ordering_reverse o
turn a b o h = ids_total.antisymm b a ∙ ap ordering_reverse h

-- what is less than one that is not larger than an identifier is below it
below_less : (id a b : Identifier) → id_cmp a b ≡ Less → is_lt (id_cmp id b) ≡ false → is_gt (id_cmp id a) ≡ true
below_less id a b h k =
    elim (id_cmp id b) as (λ o. id_cmp id b ≡ o → is_gt (id_cmp id a) ≡ true) [
      | Less ↦ λ e. absurd (true≢false (sym (ap is_lt e) ∙ k))
      | Equal ↦ λ e. ap (λ q. is_gt (id_cmp q a)) (ids_exact id b e) ∙ ap is_gt (turn a b Less h)
      | Greater ↦ λ e. ap is_gt (turn a id Less (ids_total.trans a b id h (turn id b Greater e)))
    ] refl

-- ---- in order

pub ordered_front : (xs ys : Entries) → AreOrdered (xs ++ ys) → AreOrdered xs
unfolding IsStrictlySortedBy
ordered_front [] ys h = tt
ordered_front (x ∷ xs) ys h = (front xs h.0, ordered_front xs ys h.1)
  where
    front : (zs : Entries) → AllByRecursion (λ y. id_cmp x.0 y ≡ Less) (keys_of (zs ++ ys)) → AllByRecursion (λ y. id_cmp x.0 y ≡ Less) (keys_of zs)
    front [] a = tt
    front (z ∷ zs) a = (a.0, front zs a.1)

pub ordered_back : (xs ys : Entries) → AreOrdered (xs ++ ys) → AreOrdered ys
unfolding IsStrictlySortedBy
ordered_back [] ys h = h
ordered_back (x ∷ xs) ys h = ordered_back xs ys h.1

key_at : (P : Identifier → Type 0) (es : Entries) (i : ℕ) (d : Identifier × Record) → AllByRecursion P (keys_of es) → i < length es → P (slice_index_or es i d).0
key_at P [] i d a w = absurd (omega arith)
key_at P (e ∷ es) zero d a w = a.0
key_at P (e ∷ es) (suc i) d a w = key_at P es i d a.1 (omega arith)

key_between : (P : Identifier → Type 0) (xs : Entries) (y : Identifier × Record) (ys : Entries) → AllByRecursion P (keys_of (xs ++ y ∷ ys)) → P y.0
key_between P [] y ys a = a.0
key_between P (x ∷ xs) y ys a = key_between P xs y ys a.1

-- ---- what is below an identifier

module _ (id : Identifier) where
  -- all before an entry that is not above the identifier
  pub before_below : (xs : Entries) (y : Identifier × Record) (ys : Entries) → AreOrdered (xs ++ y ∷ ys) → is_lt (id_cmp id y.0) ≡ false → AreBelow id xs
  unfolding IsStrictlySortedBy
  before_below [] y ys h k = tt
  before_below (x ∷ xs) y ys h k = (below_less id x.0 y.0 (key_between (λ q. id_cmp x.0 q ≡ Less) xs y ys h.0) k, before_below xs y ys h.1 k)

  -- all as far as an entry that is below it
  pub take_below : (es : Entries) (i : ℕ) (d : Identifier × Record) → AreOrdered es → i < length es → is_gt (id_cmp id (slice_index_or es i d).0) ≡ true → AreBelow id (take (suc i) es)
  unfolding IsStrictlySortedBy
  take_below [] i d h w k = tt
  take_below (e ∷ es) zero d h w k = (k, tt)
  take_below (e ∷ es) (suc i) d h w k =
      (below_less id e.0 (slice_index_or es i d).0 (key_at (λ q. id_cmp e.0 q ≡ Less) es i d h.0 (omega arith)) (not_less _ k), take_below es i d h.1 (omega arith) k)

  pub below_front : (xs ys : Entries) → AreBelow id (xs ++ ys) → AreBelow id xs
  below_front [] ys a = tt
  below_front (x ∷ xs) ys a = (a.0, below_front xs ys a.1)

  pub below_back : (xs ys : Entries) → AreBelow id (xs ++ ys) → AreBelow id ys
  below_back [] ys a = a
  below_back (x ∷ xs) ys a = below_back xs ys a.1

  pub below_append : (xs ys : Entries) → AreBelow id xs → AreBelow id ys → AreBelow id (xs ++ ys)
  below_append [] ys a b = b
  below_append (x ∷ xs) ys a b = (a.0, below_append xs ys a.1 b)

  -- ---- what starts where it is

  pub above_some : (xs ys : Entries) → 0 < length xs → StartsAbove id xs → StartsAbove id (xs ++ ys)
  above_some [] ys w a = absurd (omega arith)
  above_some (x ∷ xs) ys w a = a

  pub above_append : (xs ys : Entries) → StartsAbove id xs → StartsAbove id ys → StartsAbove id (xs ++ ys)
  above_append [] ys a b = b
  above_append (x ∷ xs) ys a b = a

-- ---- changes at the identifier's place

module _ (id : Identifier) (value : Record) where
  step : (x : Identifier × Record) (es : Entries) (o : Ordering) → id_cmp id x.0 ≡ o → insert_entry id_cmp (x ∷ es) id value ≡ match_ordering o ((id, value) ∷ x ∷ es) ((x.0, value) ∷ es) (x ∷ insert_entry id_cmp es id value)
  step x es o h = ap (λ r. match_ordering r ((id, value) ∷ x ∷ es) ((x.0, value) ∷ es) (x ∷ insert_entry id_cmp es id value)) h

  pub insert_between : (xs ys : Entries) → AreBelow id xs → StartsAbove id ys → insert_entry id_cmp (xs ++ ys) id value ≡ xs ++ (id, value) ∷ ys
  insert_between [] [] a k = refl
  insert_between [] (y ∷ ys) a k = step y ys Less (less (id_cmp id y.0) k)
  insert_between (x ∷ xs) ys a k = step x (xs ++ ys) Greater (greater (id_cmp id x.0) a.0) ∙ ap (λ r. x ∷ r) (insert_between xs ys a.1 k)

  pub insert_over : (xs : Entries) (y : Identifier × Record) (ys : Entries) → AreBelow id xs → y.0 ≡ id → insert_entry id_cmp (xs ++ y ∷ ys) id value ≡ xs ++ (id, value) ∷ ys
  insert_over [] y ys a e = step y ys Equal (ap (id_cmp id) e ∙ tied_itself ids_total id) ∙ ap (λ q. (q, value) ∷ ys) e
  insert_over (x ∷ xs) y ys a e = step x (xs ++ y ∷ ys) Greater (greater (id_cmp id x.0) a.0) ∙ ap (λ r. x ∷ r) (insert_over xs y ys a.1 e)

  all_inserted : (P : Identifier → Type 0) (es : Entries) → P id → AllByRecursion P (keys_of es) → AllByRecursion P (keys_of (insert_entry id_cmp es id value))
  all_inserted P es p a = recursion_from_All P (keys_of (insert_entry id_cmp es id value)) (All-keys-insert_entry id_cmp id value P es (All-from_recursion P (keys_of es) a) p)

  all_less : (b : Identifier) (es : Entries) → id_cmp id b ≡ Less → AllByRecursion (λ y. id_cmp b y ≡ Less) (keys_of es) → AllByRecursion (λ y. id_cmp id y ≡ Less) (keys_of es)
  all_less b [] h a = tt
  all_less b (e ∷ es) h a = (ids_total.trans id b e.0 h a.0, all_less b es h a.1)

  pub ordered_insert : (es : Entries) → AreOrdered es → AreOrdered (insert_entry id_cmp es id value)
  unfolding IsStrictlySortedBy
  ordered_insert [] h = (tt, tt)
  ordered_insert (e ∷ es) h =
      elim (id_cmp id e.0) as (λ o. id_cmp id e.0 ≡ o → AreOrdered (match_ordering o ((id, value) ∷ e ∷ es) ((e.0, value) ∷ es) (e ∷ insert_entry id_cmp es id value))) [
        | Less ↦ λ k. ((k, all_less e.0 es k h.0), h)
        | Equal ↦ λ k. h
        | Greater ↦ λ k. (all_inserted (λ y. id_cmp e.0 y ≡ Less) es (turn id e.0 Greater k) h.0, ordered_insert es h.1)
      ] refl

  pub updates_insert : (es : Entries) → Updates es (insert_entry id_cmp es id value) id (Some value)
  updates_insert [] q = ap (λ b. cond b (Some value) None) (is_swap q id)
  updates_insert (e ∷ es) q =
      elim (id_cmp id e.0) as (λ o. id_cmp id e.0 ≡ o → record_of q (match_ordering o ((id, value) ∷ e ∷ es) ((e.0, value) ∷ es) (e ∷ insert_entry id_cmp es id value)) ≡ cond (is id q) (Some value) (record_of q (e ∷ es))) [
        | Less ↦ λ k. ap (λ b. cond b (Some value) (record_of q (e ∷ es))) (is_swap q id)
        | Equal ↦ λ k. over (ids_exact id e.0 k)
        | Greater ↦ λ k. later (ap is_eq k) (updates_insert es q)
      ] refl
    where
      over : id ≡ e.0 → cond (is q e.0) (Some value) (record_of q es) ≡ cond (is id q) (Some value) (cond (is q e.0) (Some e.1) (record_of q es))
      over k =
          ap (λ b. cond b (Some value) (record_of q es)) (is_swap q e.0 ∙ ap (λ x. is x q) (sym k))
          ∙ elim (is id q) as (λ b. is id q ≡ b → cond b (Some value) (record_of q es) ≡ cond b (Some value) (cond (is q e.0) (Some e.1) (record_of q es))) [
            | true ↦ λ t. refl
            | false ↦ λ f. ap (λ b. cond b (Some e.1) (record_of q es)) (sym (is_swap q e.0 ∙ ap (λ x. is x q) (sym k) ∙ f))
          ] refl

      later : is id e.0 ≡ false → record_of q (insert_entry id_cmp es id value) ≡ cond (is id q) (Some value) (record_of q es) → cond (is q e.0) (Some e.1) (record_of q (insert_entry id_cmp es id value)) ≡ cond (is id q) (Some value) (cond (is q e.0) (Some e.1) (record_of q es))
      later k rest =
          ap (cond (is q e.0) (Some e.1)) rest
          ∙ elim (is q e.0) as (λ b. is q e.0 ≡ b → cond b (Some e.1) (cond (is id q) (Some value) (record_of q es)) ≡ cond (is id q) (Some value) (cond b (Some e.1) (record_of q es))) [
            | true ↦ λ t. ap (λ b. cond b (Some value) (Some e.1)) (sym (ap (is id) (same_id q e.0 t) ∙ k))
            | false ↦ λ f. refl
          ] refl

-- what is in order stays so behind what is below its first
pub ordered_join : (xs ys : Entries) (d : Identifier × Record) → AreOrdered xs → AreOrdered ys → AreBelow (slice_index_or ys 0 d).0 xs → AreOrdered (xs ++ ys)
unfolding IsStrictlySortedBy
ordered_join [] ys d h k a = k
ordered_join (x ∷ xs) ys d h k a = (both xs h.0 (later ys k a.0), ordered_join xs ys d h.1 k a.1)
  where
    both : (zs : Entries) → AllByRecursion (λ y. id_cmp x.0 y ≡ Less) (keys_of zs) → AllByRecursion (λ y. id_cmp x.0 y ≡ Less) (keys_of ys) → AllByRecursion (λ y. id_cmp x.0 y ≡ Less) (keys_of (zs ++ ys))
    both [] a b = b
    both (z ∷ zs) a b = (a.0, both zs a.1 b)

    later : (zs : Entries) → AreOrdered zs → is_gt (id_cmp (slice_index_or zs 0 d).0 x.0) ≡ true → AllByRecursion (λ y. id_cmp x.0 y ≡ Less) (keys_of zs)
    later [] k g = tt
    later (z ∷ zs) k g =
        let first : id_cmp x.0 z.0 ≡ Less = turn z.0 x.0 Greater (greater (id_cmp z.0 x.0) g) in
        (first, all_less x.0 z.1 z.0 zs first k.0)

-- ---- the identifier's own entry

module _ (id : Identifier) where
  passes : (x : Identifier × Record) → is_gt (id_cmp id x.0) ≡ true → is id x.0 ≡ false
  passes x k = ap is_eq (greater (id_cmp id x.0) k)

  pub remove_between : (xs : Entries) (y : Identifier × Record) (ys : Entries) → AreBelow id xs → y.0 ≡ id → remove_entry (is id) (xs ++ y ∷ ys) ≡ xs ++ ys
  remove_between [] y ys a e = ap (λ b. cond b ys (y ∷ remove_entry (is id) ys)) (ap (is id) e ∙ is_itself id)
  remove_between (x ∷ xs) y ys a e =
      ap (λ b. cond b (xs ++ y ∷ ys) (x ∷ remove_entry (is id) (xs ++ y ∷ ys))) (passes x a.0) ∙ ap (λ r. x ∷ r) (remove_between xs y ys a.1 e)

  pub record_between : (xs : Entries) (y : Identifier × Record) (ys : Entries) → AreBelow id xs → y.0 ≡ id → record_of id (xs ++ y ∷ ys) ≡ Some y.1
  record_between [] y ys a e = ap (λ b. cond b (Some y.1) (record_of id ys)) (ap (is id) e ∙ is_itself id)
  record_between (x ∷ xs) y ys a e = ap (λ b. cond b (Some x.1) (record_of id (xs ++ y ∷ ys))) (passes x a.0) ∙ record_between xs y ys a.1 e

  pub set_between : (value : Record) (xs : Entries) (y : Identifier × Record) (ys : Entries) → AreBelow id xs → y.0 ≡ id → set_value (is id) (xs ++ y ∷ ys) value ≡ xs ++ (id, value) ∷ ys
  set_between value [] y ys a e = ap (λ b. cond b ((y.0, value) ∷ ys) (y ∷ set_value (is id) ys value)) (ap (is id) e ∙ is_itself id) ∙ ap (λ q. (q, value) ∷ ys) e
  set_between value (x ∷ xs) y ys a e =
      ap (λ b. cond b ((x.0, value) ∷ xs ++ y ∷ ys) (x ∷ set_value (is id) (xs ++ y ∷ ys) value)) (passes x a.0) ∙ ap (λ r. x ∷ r) (set_between value xs y ys a.1 e)

  none_behind : (b : Identifier) (es : Entries) → id_cmp id b ≡ Less → AllByRecursion (λ y. id_cmp b y ≡ Less) (keys_of es) → record_of id es ≡ None
  none_behind b [] h a = refl
  none_behind b (e ∷ es) h a = ap (λ t. cond t (Some e.1) (record_of id es)) (ap is_eq (ids_total.trans id b e.0 h a.0)) ∙ none_behind b es h a.1

  pub record_absent : (xs ys : Entries) → AreOrdered (xs ++ ys) → AreBelow id xs → StartsAbove id ys → record_of id (xs ++ ys) ≡ None
  unfolding IsStrictlySortedBy
  record_absent [] [] h a k = refl
  record_absent [] (y ∷ ys) h a k =
      let first : id_cmp id y.0 ≡ Less = less (id_cmp id y.0) k in
      ap (λ t. cond t (Some y.1) (record_of id ys)) (ap is_eq first) ∙ none_behind y.0 ys first h.0
  record_absent (x ∷ xs) ys h a k = ap (λ t. cond t (Some x.1) (record_of id (xs ++ ys))) (passes x a.0) ∙ record_absent xs ys h.1 a.1 k

  all_left : (P : Identifier → Type 0) (es : Entries) → AllByRecursion P (keys_of es) → AllByRecursion P (keys_of (remove_entry (is id) es))
  all_left P es a = recursion_from_All P (keys_of (remove_entry (is id) es)) (All-map-remove_entry (is id) (λ (e : Identifier × Record). e.0) P es (All-from_recursion P (keys_of es) a))

  pub ordered_remove : (es : Entries) → AreOrdered es → AreOrdered (remove_entry (is id) es)
  unfolding IsStrictlySortedBy
  ordered_remove [] h = tt
  ordered_remove (e ∷ es) h =
      elim (is id e.0) as (λ b. AreOrdered (cond b es (e ∷ remove_entry (is id) es))) [
        | true ↦ h.1
        | false ↦ (all_left (λ y. id_cmp e.0 y ≡ Less) es h.0, ordered_remove es h.1)
      ]

  pub updates_remove : (es : Entries) → AreOrdered es → Updates es (remove_entry (is id) es) id None
  updates_remove es h q = lookup-remove_entry (eq_by_cmp_equiv ids_total) (is id) (λ x y t. ap (λ k. is k y) (same_id id x t)) q es (IsDistinct-from_sorted id_cmp (keys_of es) h)

  pub remove_none : (es : Entries) → record_of id es ≡ None → remove_entry (is id) es ≡ es
  remove_none [] h = refl
  remove_none (e ∷ es) h =
      elim (is id e.0) as (λ b. cond b (Some e.1) (record_of id es) ≡ None → cond b es (e ∷ remove_entry (is id) es) ≡ e ∷ es) [
        | true ↦ λ k. absurd (true≢false (ap is_some k))
        | false ↦ λ k. ap (λ r. e ∷ r) (remove_none es k)
      ] h

  pub set_none : (value : Record) (es : Entries) → record_of id es ≡ None → set_value (is id) es value ≡ es
  set_none value [] h = refl
  set_none value (e ∷ es) h =
      elim (is id e.0) as (λ b. cond b (Some e.1) (record_of id es) ≡ None → cond b ((e.0, value) ∷ es) (e ∷ set_value (is id) es value) ≡ e ∷ es) [
        | true ↦ λ k. absurd (true≢false (ap is_some k))
        | false ↦ λ k. ap (λ r. e ∷ r) (set_none value es k)
      ] h

-- what no record has is missed by none
pub updates_none : (es : Entries) (id : Identifier) → record_of id es ≡ None → Updates es es id None
updates_none es id none q =
    elim (is id q) as (λ b. is id q ≡ b → record_of q es ≡ cond b None (record_of q es)) [
      | true ↦ λ t. ap (λ k. record_of k es) (sym (same_id id q t)) ∙ none
      | false ↦ λ t. refl
    ] refl
