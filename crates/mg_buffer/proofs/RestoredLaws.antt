-- What stands for elements after all that was restored, and what an undo adds to that.
use Rattle.mg_buffer.proofs.Prelude.{◌≡◌, ℕ, zero, suc, ◌+◌, ◌<◌, ◌≤◌, true, false, cond, is_some, List, [], ◌∷◌, ◌++◌, map, length, get_or, filter, refl, sym, ap, ◌∙◌, subst, arith, true≢false, append-nil, Option, Some, None, same_Some, if◌then◌else◌, or_parts, map-id, all_map, all_append, list_any, AllByRecursion, Identifier, is_id, Content, clock_of, is_visible, Op, Insert, Delete, are_restorable, distinct_elements, restorations, revert_operations, inserted_elements, Past, past_at, stand_in, substituted, all_substituted, AreApart, AreFirst, AreNewerThan, AreRising, IsShortened, PastList, Restored, Restores, deleted_ones, greatest_counter, latest, newest_restored, old_ones, restored_by}
use Rattle.std.specs.Map.{lookup}
use Rattle.indexmap.specs.IndexMap.{insert_entry}
use Rattle.std.proofs.lemmas.Option.{none-some}
use Rattle.rga_ops.proofs.IdentifierLaws.{is_id-is}
use Rattle.rga_doc.proofs.RevertSets.{id_swap}
use Rattle.rga_doc.proofs.UndoLists.{AreNewer, newer_still as still_newer}
use Rattle.mg_buffer.proofs.OldLaws.{either, map-map}
use Rattle.mg_buffer.proofs.RestorableLaws.{Back, inserted_by_revert, newer_apart, restorable_apart, restorable_old}

older_apart : (old new : Identifier) → old.counter < new.counter → is_id old new ≡ false
older_apart old new low = id_swap old new ∙ newer_apart old new old low

-- ---- what is found for an element

found_all : (P : Identifier → Type 0) (rs : Restored) (id x : Identifier) → AllByRecursion (λ (r : Identifier × Identifier). P r.1) rs → lookup (is_id id) rs ≡ Some x → P x
found_all P [] id x all found = absurd (none-some x found)
found_all P (r ∷ rs) id x all found = elim (is_id id r.0) as (λ b. cond b (Some r.1) (lookup (is_id id) rs) ≡ Some x → P x) [
  | true ↦ λ here. subst P (same_Some r.1 x here) all.0
  | false ↦ λ rest. found_all P rs id x all.1 rest
] found

-- it stands for the same in the end
pub latest_next : (rs : Restored) (id x : Identifier) → AreRising rs → lookup (is_id id) rs ≡ Some x → latest rs x ≡ latest rs id
latest_next [] id x rising found = absurd (none-some x found)
latest_next (r ∷ rs) id x rising found = elim (is_id id r.0) as (λ b. is_id id r.0 ≡ b → cond b (Some r.1) (lookup (is_id id) rs) ≡ Some x → latest (r ∷ rs) x ≡ latest (r ∷ rs) id) [
  | true ↦ λ same here.
      ap (latest rs) (either (λ y. y ≡ r.1) (is_id r.0 x) r.1 x refl (sym (same_Some r.1 x here)) ∙ sym (ap (λ b. if b then r.1 else id) (id_swap r.0 id ∙ same)))
  | false ↦ λ other rest.
      let newer = found_all (λ y. r.0.counter < y.counter) rs id x rising.0.1 rest in
      ap (λ b. latest rs (if b then r.1 else x)) (older_apart r.0 x newer) ∙ latest_next rs id x rising.1 rest ∙ ap (λ b. latest rs (if b then r.1 else id)) (sym (id_swap r.0 id ∙ other))
] refl found

pub latest_none : (rs : Restored) (id : Identifier) → lookup (is_id id) rs ≡ None → latest rs id ≡ id
latest_none [] id none = refl
latest_none (r ∷ rs) id none = elim (is_id id r.0) as (λ b. is_id id r.0 ≡ b → cond b (Some r.1) (lookup (is_id id) rs) ≡ None → latest (r ∷ rs) id ≡ id) [
  | true ↦ λ same clash. absurd (none-some r.1 (sym clash))
  | false ↦ λ other rest. ap (λ b. latest rs (if b then r.1 else id)) (id_swap r.0 id ∙ other) ∙ latest_none rs id rest
] refl none

-- it is newer, so that steps end
pub record IsStep (rs : Restored) (id x : Identifier) : Type 0 where
  pub newer : id.counter < x.counter
  pub within : id.counter ≤ greatest_counter (old_ones rs)

pub step : (rs : Restored) (id x : Identifier) → AreRising rs → lookup (is_id id) rs ≡ Some x → IsStep rs id x
step [] id x rising found = absurd (none-some x found)
step (r ∷ rs) id x rising found = elim (is_id id r.0) as (λ b. is_id id r.0 ≡ b → cond b (Some r.1) (lookup (is_id id) rs) ≡ Some x → IsStep (r ∷ rs) id x) [
  | true ↦ λ same here.
      let own : id.counter ≡ r.0.counter = ap (λ (y : Identifier). y.counter) (is_id-is id r.0 same) in
      let next : r.1.counter ≡ x.counter = ap (λ (y : Identifier). y.counter) (same_Some r.1 x here) in
      record { newer = omega (arith, own, next, rising.0.0); within = omega (arith, own) }
  | false ↦ λ other rest. let s = step rs id x rising.1 rest in record { newer = s.newer; within = omega (arith, s.within) }
] refl found

-- ---- what stands in the end was not restored

latest_apart : (old id : Identifier) (rs : Restored) → AreNewerThan old.counter rs → is_id old id ≡ false → is_id old (latest rs id) ≡ false
latest_apart old id [] newer apart = apart
latest_apart old id (r ∷ rs) newer apart = latest_apart old (if is_id r.0 id then r.1 else id) rs newer.1 (either (λ x. is_id old x ≡ false) (is_id r.0 id) r.1 id (older_apart old r.1 newer.0) apart)

latest_not_restored : (rs : Restored) (id : Identifier) → AreRising rs → lookup (is_id (latest rs id)) rs ≡ None
latest_not_restored [] id rising = refl
latest_not_restored (r ∷ rs) id rising =
    let next : Identifier = if is_id r.0 id then r.1 else id in
    let apart : is_id r.0 next ≡ false = elim (is_id r.0 id) as (λ b. is_id r.0 id ≡ b → is_id r.0 (if b then r.1 else id) ≡ false) [
      | true ↦ λ _. older_apart r.0 r.1 rising.0.0
      | false ↦ λ other. other
    ] refl in
    λ k. cond ((id_swap (latest rs next) r.0 ∙ latest_apart r.0 next rs rising.0.1 apart) k) (Some r.1) (latest_not_restored rs next rising.1 k)

abbrev pub AreNotRestored : Restored → List Identifier → Type 0
AreNotRestored rs ids = AllByRecursion (λ id. lookup (is_id id) rs ≡ None) ids

deleted_not_restored : (rs : Restored) (deleted : Back) → AreRising rs → AreNotRestored rs (deleted_ones (map (λ (b : Identifier × ℕ). (latest rs b.0, b.1)) deleted))
deleted_not_restored rs [] rising = tt
deleted_not_restored rs (b ∷ deleted) rising = (latest_not_restored rs b.0 rising, deleted_not_restored rs deleted rising)

pub past_not_restored : (rs : Restored) (groups : List Past) (i : ℕ) → AreRising rs → AreNotRestored rs (deleted_ones (past_at (all_substituted (latest rs) groups) i).deleted)
past_not_restored rs [] i rising = tt
past_not_restored rs (g ∷ groups) zero rising = deleted_not_restored rs g.deleted rising
past_not_restored rs (g ∷ groups) (suc i) rising = past_not_restored rs groups i rising

-- ---- what is found in fewer steps

latest_newer : (n : ℕ) (rs : Restored) (id : Identifier) → AreNewerThan n rs → n < id.counter → n < (latest rs id).counter
latest_newer n [] id newer low = low
latest_newer n (r ∷ rs) id newer low = latest_newer n rs (if is_id r.0 id then r.1 else id) newer.1 (either (λ (x : Identifier). n < x.counter) (is_id r.0 id) r.1 id newer.0 low)

newer_still : (n : ℕ) (rs : Restored) (id x : Identifier) → AreNewerThan n rs → n < x.counter → AreNewerThan n (insert_entry is_id rs id x)
newer_still n [] id x newer low = (low, tt)
newer_still n (r ∷ rs) id x newer low = elim (is_id id r.0) as (λ b. AreNewerThan n (if b then (r.0, x) ∷ rs else r ∷ insert_entry is_id rs id x)) [
  | true ↦ (low, newer.1)
  | false ↦ (newer.0, newer_still n rs id x newer.1 low)
]

-- an element is noted with what stands for it in the end
pub shortened : (rs : Restored) (id last : Identifier) → AreRising rs → is_some (lookup (is_id id) rs) ≡ true → last ≡ latest rs id → IsShortened rs (insert_entry is_id rs id last)
shortened [] id last rising there is = absurd (true≢false (sym there))
shortened (r ∷ rs) id last rising there is = elim (is_id id r.0) as (λ b. is_id id r.0 ≡ b → is_some (cond b (Some r.1) (lookup (is_id id) rs)) ≡ true → IsShortened (r ∷ rs) (if b then (r.0, last) ∷ rs else r ∷ insert_entry is_id rs id last)) [
  | true ↦ λ same _.
      let final : last ≡ latest rs r.1 = is ∙ ap (λ b. latest rs (if b then r.1 else id)) (id_swap r.0 id ∙ same) in
      let again : latest rs last ≡ latest rs r.1 = ap (latest rs) final ∙ latest_none rs (latest rs r.1) (latest_not_restored rs r.1 rising.1) in
      let newer = subst (λ (x : Identifier). r.0.counter < x.counter) (sym final) (latest_newer r.0.counter rs r.1 rising.0.1 rising.0.0) in
      record {
        rising = ((newer, rising.0.1), rising.1);
        same = λ k x. elim (is_id r.0 x) as (λ b. latest rs (if b then last else x) ≡ latest rs (if b then r.1 else x)) [ true ↦ again | false ↦ refl ] k;
        ones = refl;
      }
  | false ↦ λ other rest.
      let final : last ≡ latest rs id = is ∙ ap (λ b. latest rs (if b then r.1 else id)) (id_swap r.0 id ∙ other) in
      let s = shortened rs id last rising.1 rest final in
      let newer = subst (λ (x : Identifier). r.0.counter < x.counter) (sym final) (newer_found r.0.counter rs id rising.1 rising.0.1 rest) in
      record {
        rising = ((rising.0.0, newer_still r.0.counter rs id last rising.0.1 newer), s.rising);
        same = λ k x. s.same k (if is_id r.0 x then r.1 else x);
        ones = ap (λ ids. r.0 ∷ ids) s.ones;
      }
] refl there
  where
    newer_found : (n : ℕ) (rs : Restored) (id : Identifier) → AreRising rs → AreNewerThan n rs → is_some (lookup (is_id id) rs) ≡ true → n < (latest rs id).counter
    newer_found n rs id rising newer there = elim (lookup (is_id id) rs) as (λ o. lookup (is_id id) rs ≡ o → is_some o ≡ true → n < (latest rs id).counter) [
      | Some x ↦ λ found _. subst (λ (y : Identifier). n < y.counter) (latest_next rs id x rising found) (latest_newer n rs x newer (found_all (λ y. n < y.counter) rs id x newer found))
      | None ↦ λ _ clash. absurd (true≢false (sym clash))
    ] refl there

-- ---- elements that stand for themselves

pub newer_settled : (rs : Restored) (ids : List Identifier) → AreNewer (greatest_counter (old_ones rs)) ids → map (latest rs) ids ≡ ids
newer_settled rs [] newer = refl
newer_settled rs (id ∷ ids) newer = λ k. alone rs newer.0 k ∷ newer_settled rs ids newer.1 k
  where
    alone : (rs : Restored) → greatest_counter (old_ones rs) < id.counter → latest rs id ≡ id
    alone [] h = refl
    alone (r ∷ rs) h = ap (λ b. latest rs (if b then r.1 else id)) (older_apart r.0 id (omega (arith, h))) ∙ alone rs (omega (arith, h))

pub others_settled : (rs : Restored) (deleted : Back) → list_any (λ (b : Identifier × ℕ). is_some (lookup (is_id b.0) rs)) deleted ≡ false → map (λ (b : Identifier × ℕ). (latest rs b.0, b.1)) deleted ≡ deleted
others_settled rs [] none = refl
others_settled rs (b ∷ deleted) none =
    let p = or_parts (is_some (lookup (is_id b.0) rs)) (list_any (λ (b : Identifier × ℕ). is_some (lookup (is_id b.0) rs)) deleted) none in
    λ k. (latest_none rs b.0 (no_value (lookup (is_id b.0) rs) p.0) k, b.1) ∷ others_settled rs deleted p.1 k
  where
    no_value : (o : Option Identifier) → is_some o ≡ false → o ≡ None
    no_value None h = refl
    no_value (Some x) h = let clash : true ≡ false = h in cc

-- ---- groups

pub none_restored : (groups : List Past) → all_substituted (latest []) groups ≡ groups
none_restored [] = refl
none_restored (g ∷ groups) = λ k. record { inserted = map-id g.inserted k; deleted = map-id g.deleted k } ∷ none_restored groups k

substituted_twice : (f g : Identifier → Identifier) (groups : List Past) → all_substituted g (all_substituted f groups) ≡ all_substituted (λ id. g (f id)) groups
substituted_twice f g [] = refl
substituted_twice f g (p ∷ groups) = λ k. record { inserted = map-map g f p.inserted k; deleted = map-map (λ (b : Identifier × ℕ). (g b.0, b.1)) (λ (b : Identifier × ℕ). (f b.0, b.1)) p.deleted k } ∷ substituted_twice f g groups k

-- what operations restore goes on from what was restored
pub restored_more : (rs : Restored) (ops : List Op) (groups : List Past) → all_substituted (latest (rs ++ restored_by ops)) groups ≡ all_substituted (stand_in ops) (all_substituted (latest rs) groups)
restored_more rs ops groups = (λ k. all_substituted (λ id. both rs ops id k) groups) ∙ sym (substituted_twice (latest rs) (stand_in ops) groups)
  where
    one : (ops : List Op) (id : Identifier) → latest (restored_by ops) id ≡ stand_in ops id
    one [] id = refl
    one (Insert x parent ch ∷ ops) id = one ops (if is_id parent id then x else id)
    one (Delete x ∷ ops) id = one ops id

    both : (rs : Restored) (ops : List Op) (id : Identifier) → latest (rs ++ restored_by ops) id ≡ stand_in ops (latest rs id)
    both [] ops id = one ops id
    both (r ∷ rs) ops id = both rs ops (if is_id r.0 id then r.1 else id)

-- ---- what is noted of an undo

pub deletion_restores_nothing : (rs : Restored) (id : Identifier) → rs ++ restored_by (Delete id ∷ []) ≡ rs
deletion_restores_nothing rs id = append-nil rs

not_found_behind : (rs : Restored) (r : Identifier × Identifier) (ids : List Identifier) → AreNotRestored rs ids → AllByRecursion (λ q. is_id q r.0 ≡ false) ids → AreNotRestored (rs ++ r ∷ []) ids
not_found_behind rs r [] none apart = tt
not_found_behind rs r (id ∷ ids) none apart = (one rs none.0, not_found_behind rs r ids none.1 apart.1)
  where
    one : (rs : Restored) → lookup (is_id id) rs ≡ None → lookup (is_id id) (rs ++ r ∷ []) ≡ None
    one [] h = ap (λ b. cond b (Some r.1) None) apart.0
    one (q ∷ rs) h = elim (is_id id q.0) as (λ b. cond b (Some q.1) (lookup (is_id id) rs) ≡ None → cond b (Some q.1) (lookup (is_id id) (rs ++ r ∷ [])) ≡ None) [ true ↦ λ h. h | false ↦ λ h. one rs h ] h

pub none_again : (rs : Restored) (ops : List Op) → AreNotRestored rs (old_ones (restored_by ops)) → AreApart (old_ones (restored_by ops)) → AreFirst rs ops
none_again rs [] none apart = tt
none_again rs (Insert x parent ch ∷ ops) none apart = (none.0, none_again (rs ++ (parent, x) ∷ []) ops (not_found_behind rs (parent, x) (old_ones (restored_by ops)) none.1 apart.0) apart.1)
none_again rs (Delete x ∷ ops) none apart = (tt, subst (λ xs. AreFirst xs ops) (sym (append-nil rs)) (none_again rs ops none apart))

pub rising_on : (n : ℕ) (xs ys : Restored) → AreRising xs → greatest_counter (old_ones xs) ≤ n → greatest_counter (old_ones ys) ≤ n → AreNewerThan n ys → AreRising (xs ++ ys)
rising_on n [] [] rising low below newer = tt
rising_on n [] (y ∷ ys) rising low below newer =
    (all_map (λ (r : Identifier × Identifier). n < r.1.counter) (λ (r : Identifier × Identifier). y.0.counter < r.1.counter) (λ r h. omega (arith, h, below)) (y ∷ ys) newer, rising_on n [] ys tt low (omega (arith, below)) newer.1)
rising_on n (x ∷ xs) ys rising low below newer = (
  all_append (λ (r : Identifier × Identifier). x.0.counter < r.1.counter) (x ∷ xs) ys rising.0 (all_map (λ (r : Identifier × Identifier). n < r.1.counter) (λ (r : Identifier × Identifier). x.0.counter < r.1.counter) (λ r h. omega (arith, h, low)) ys newer),
  rising_on n xs ys rising.1 (omega (arith, low)) below newer,
)

-- ---- the operations of a revert

deletions_restore_nothing : (ids : List Identifier) (ops : List Op) → restored_by (map Delete ids ++ ops) ≡ restored_by ops
deletions_restore_nothing [] ops = refl
deletions_restore_nothing (id ∷ ids) ops = deletions_restore_nothing ids ops

restored_are : (back : Back) (replica last : ℕ) → old_ones (restored_by (restorations replica last back)) ≡ deleted_ones back
restored_are [] replica last = refl
restored_are (b ∷ back) replica last = ap (λ xs. b.0 ∷ xs) (restored_are back replica (last + 1))

restored_newer : (back : Back) (replica last : ℕ) → AreNewerThan last (restored_by (restorations replica last back))
restored_newer [] replica last = tt
restored_newer (b ∷ back) replica last = (omega arith, all_map (λ (r : Identifier × Identifier). last + 1 < r.1.counter) (λ (r : Identifier × Identifier). last < r.1.counter) (λ r h. omega (arith, h)) (restored_by (restorations replica (last + 1) back)) (restored_newer back replica (last + 1)))

module _ (replica : ℕ) (c : Content) (undone : Past) (able : are_restorable c undone.deleted ≡ true) where
  abbrev pub ops : List Op
  ops = revert_operations replica c undone.inserted undone.deleted

  restored_is : restored_by ops ≡ restored_by (restorations replica (clock_of c) undone.deleted)
  restored_is = deletions_restore_nothing (distinct_elements (filter (is_visible c) undone.inserted)) (restorations replica (clock_of c) undone.deleted)

  same_ones : old_ones (restored_by ops) ≡ deleted_ones undone.deleted
  same_ones = ap old_ones restored_is ∙ restored_are undone.deleted replica (clock_of c)

  pub ones_old : greatest_counter (old_ones (restored_by ops)) ≤ clock_of c
  ones_old = subst (λ ids. greatest_counter ids ≤ clock_of c) (sym same_ones) (restorable_old c undone.deleted able)

  pub inserted_newer : AreNewer (clock_of c) (inserted_elements ops)
  inserted_newer = subst (AreNewer (clock_of c)) (sym (inserted_by_revert replica c undone.inserted undone.deleted)) (each undone.deleted (clock_of c))
    where
      each : (back : Back) (last : ℕ) → AreNewer last (inserted_elements (restorations replica last back))
      each [] last = tt
      each (b ∷ back) last = (omega arith, still_newer last (last + 1) (inserted_elements (restorations replica (last + 1) back)) (omega arith) (each back (last + 1)))

  pub restores : (h : PastList) (i : ℕ) → undone ≡ past_at h.pasts i → newest_restored h ≤ clock_of c → Restores h ops
  restores h i is known = record {
    index = i;
    bound = clock_of c;
    same = same_ones ∙ ap (λ (g : Past). deleted_ones g.deleted) is;
    apart = subst AreApart (sym same_ones) (restorable_apart c undone.deleted able);
    known = known;
    old = ones_old;
    newer = subst (AreNewerThan (clock_of c)) (sym restored_is) (restored_newer undone.deleted replica (clock_of c));
  }
