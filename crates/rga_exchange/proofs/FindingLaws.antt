-- In the list of a content's operations each is found at its place.
use Rattle.std.proofs.Common.{◌≡◌, ℕ, zero, suc, ◌+◌, ◌<◌, ◌≤◌, Bool, true, false, cond, List, [], ◌∷◌, ◌++◌, map, length, get_or, Option, Some, None, is_some, refl, sym, ap, subst, ◌∙◌, T, arith, true≢false}
use Rattle.std.specs.Prelude.{slice_get, option_and_then}
use Rattle.std.specs.Option.{option_map, option_map_or}
use Rattle.std.specs.List.{AllWithin}
use Rattle.std.specs.List.Sorted.{IsPartitionedBy}
use Rattle.std.specs.Ordering.{is_lt, is_eq, ordering_reverse}
use Rattle.std.specs.declared.cmp.Ordering.{Ordering}
use Rattle.std.specs.declared.cmp.Ordering.TheVariants.{Less}
use Rattle.std.proofs.lemmas.List.{get_or_read}
use Rattle.std.proofs.lemmas.Option.{slice_get_read, slice_get_past}
use Rattle.std.specs.FinMap as finite_map
use Rattle.std.specs.FinSet as finite_set
use Rattle.std.specs.FinMap.{FinMap, find, is_sorted}
use Rattle.std.specs.FinMap.Entries.{below_all}
use Rattle.rga_ops.specs.Identifier.{Identifier, id_cmp, is_id}
use Rattle.rga_ops.specs.Content.{Element, Content, content_of, element_at}
use Rattle.rga_ops.specs.Operations.{insertion_of, alone, operations}
use Rattle.rga_ops.specs.declared.op.Op.{Op}
use Rattle.rga_ops.specs.declared.op.Op.TheVariants.{Delete}
use Rattle.rga_ops.proofs.IdentifierLaws.{ids_total, is, is_swap, is_id-same}
use Rattle.rga_ops.proofs.OperationsLaws.{content_of-operations, any-rising}
use Rattle.rga_ops.proofs.SortedLaws.{both_so, less_of}
use Rattle.rga_exchange.specs.Finding.{is_below, AreBelowUpTo, AreNotBelowFrom, IsPlaceOf, element_of_op, is_deletion_of}

less_so : (o : Ordering) → is_lt o ≡ true → o ≡ Less
less_so o h = less_of o (subst T (sym h) tt)

above_so : (o : Ordering) → is_lt o ≡ false → is_eq o ≡ false → ordering_reverse o ≡ Less
above_so o h k = grind (arith)

pub later_above : {B : Type 0} (x : Identifier) (e : Identifier × B) (es : List (Identifier × B)) → T (below_all id_cmp x (e ∷ es)) → T (is_lt (id_cmp x e.0)) × T (below_all id_cmp x es)
later_above x e es h = both_so (is_lt (id_cmp x e.0)) (below_all id_cmp x es) h

pub later_sorted : {B : Type 0} (e : Identifier × B) (es : List (Identifier × B)) → T (is_sorted id_cmp (e ∷ es)) → T (below_all id_cmp e.0 es) × T (is_sorted id_cmp es)
later_sorted e es h = both_so (below_all id_cmp e.0 es) (is_sorted id_cmp es) h

-- the operations before the place pass the test, and the others do not
abbrev IsPlaceBy : (Op → Bool) → List Op → ℕ → Type 0
IsPlaceBy below ops place = AllWithin (λ op. below op ≡ true) ops 0 place × AllWithin (λ op. below op ≡ false) ops place (length ops)

later_place : (below : Op → Bool) (op : Op) (ops : List Op) (k : ℕ) → IsPlaceBy below (op ∷ ops) (suc k) → IsPlaceBy below ops k
later_place below op ops k place = (λ j d from to. place.0 (suc j) d (omega arith) (omega (arith, to)), λ j d from to. place.1 (suc j) d (omega (arith, from)) (omega (arith, to)))

-- Entries that rise by identifier make operations, which pass where theirs is below this one; behind them others stand, of
-- which none passes.
module _ {B : Type 0} (id : Identifier) (make : Identifier × B → Op) (below : Op → Bool) (tells : (e : Identifier × B) → below (make e) ≡ is_lt (id_cmp e.0 id)) (more : List Op)
    (none : (j : ℕ) (d : Op) → j < length more → below (get_or more j d) ≡ true → ⊥) where
  first_below : (x : Identifier) (es : List (Identifier × B)) → T (below_all id_cmp x es) → (j : ℕ) (d : Op) → j < length (map make es ++ more) → below (get_or (map make es ++ more) j d) ≡ true → is_lt (id_cmp x id) ≡ true
  first_below x [] above j d within h = absurd (none j d within h)
  first_below x (e ∷ es) above zero d within h =
      ap is_lt (ids_total.trans x e.0 id (less_of (id_cmp x e.0) (later_above x e es above).0) (less_so (id_cmp e.0 id) (sym (tells e) ∙ h)))
  first_below x (e ∷ es) above (suc j) d within h = first_below x es (later_above x e es above).1 j d (omega (arith, within)) h

  -- behind what is not below an identifier nothing is
  parted_by : (es : List (Identifier × B)) → T (is_sorted id_cmp es) → IsPartitionedBy below (map make es ++ more)
  parted_by [] sorted i j d up within h = absurd (none j d within h)
  parted_by (e ∷ es) sorted zero zero d up within h = h
  parted_by (e ∷ es) sorted zero (suc j) d up within h = tells e ∙ first_below e.0 es (later_sorted e es sorted).0 j d (omega (arith, within)) h
  parted_by (e ∷ es) sorted (suc i) zero d up within h = absurd (omega (arith, up))
  parted_by (e ∷ es) sorted (suc i) (suc j) d up within h = parted_by es (later_sorted e es sorted).1 i j d (omega (arith, up)) (omega (arith, within)) h

  none_above : (x : Identifier) (es : List (Identifier × B)) → id_cmp id x ≡ Less → T (below_all id_cmp x es) → find id_cmp id es ≡ None
  none_above x [] less above = refl
  none_above x (e ∷ es) less above =
      let s = later_above x e es above in
      let first : id_cmp id e.0 ≡ Less = ids_total.trans id x e.0 less (less_of (id_cmp x e.0) s.0) in
      ap (λ o. cond (is_eq o) (Some e.1) (find id_cmp id es)) first ∙ none_above x es less s.1

  -- What is at the place tells what is found under the identifier.
  place_tells : {R : Type 0} (answer : Option Op → R) (found : Option B → R) → ((e : Identifier × B) → answer (Some (make e)) ≡ cond (is_id e.0 id) (found (Some e.1)) (found None)) → ((k : ℕ) → answer (slice_get more k) ≡ found None)
      → (es : List (Identifier × B)) → T (is_sorted id_cmp es) → (k : ℕ) → IsPlaceBy below (map make es ++ more) k → answer (slice_get (map make es ++ more) k) ≡ found (find id_cmp id es)
  place_tells answer found says nothing [] sorted k place = nothing k
  place_tells answer found says nothing (e ∷ es) sorted zero place = says e ∙ ap (λ b. cond b (found (Some e.1)) (found None)) (is_id-same e.0 id) ∙ by_choice (is id e.0) refl
    where
      by_choice : (b : Bool) → is id e.0 ≡ b → cond b (found (Some e.1)) (found None) ≡ found (cond b (Some e.1) (find id_cmp id es))
      by_choice true same = refl
      by_choice false other =
          let above = above_so (id_cmp e.0 id) (sym (tells e) ∙ place.1 0 (make e) (omega arith) (omega arith)) (is_swap e.0 id ∙ other) in
          ap found (sym (none_above e.0 es (ids_total.antisymm id e.0 ∙ above) (later_sorted e es sorted).0))
  place_tells answer found says nothing (e ∷ es) sorted (suc k) place =
      let below_it : is_lt (id_cmp e.0 id) ≡ true = sym (tells e) ∙ place.0 0 (make e) (omega arith) (omega arith) in
      let other : is id e.0 ≡ false = ap is_eq (ids_total.antisymm id e.0 ∙ ap ordering_reverse (less_so (id_cmp e.0 id) below_it)) in
      place_tells answer found says nothing es (later_sorted e es sorted).1 k (later_place below (make e) (map make es ++ more) k place) ∙ ap (λ b. found (cond b (Some e.1) (find id_cmp id es))) (sym other)

-- ---- insertions, and deletions behind them

abbrev gone : Identifier × Unit {0} → Op
gone d = Delete d.0

deletions_are : (ds : List (Identifier × Unit {0})) → map Delete (map (λ (d : Identifier × Unit {0}). d.0) ds) ≡ map gone ds ++ []
deletions_are [] = refl
deletions_are (d ∷ ds) = ap (λ (ops : List Op). gone d ∷ ops) (deletions_are ds)

module _ (id : Identifier) where
  no_deletion_below : (ds : List (Identifier × Unit {0})) (j : ℕ) (d : Op) → j < length (map gone ds ++ []) → is_below false id (get_or (map gone ds ++ []) j d) ≡ true → ⊥
  no_deletion_below [] j d within h = omega (arith, within)
  no_deletion_below (x ∷ ds) zero d within h = true≢false (sym h)
  no_deletion_below (x ∷ ds) (suc j) d within h = no_deletion_below ds j d (omega (arith, within)) h

  no_element : (ds : List (Identifier × Unit {0})) (k : ℕ) → option_and_then (element_of_op id) (slice_get (map gone ds ++ []) k) ≡ None
  no_element [] k = refl
  no_element (x ∷ ds) zero = refl
  no_element (x ∷ ds) (suc k) = no_element ds k

  -- where insertions stand before deletions, each is before these
  parted_behind : (es : List (Identifier × Element)) (more : List Op) → IsPartitionedBy (is_below true id) more → IsPartitionedBy (is_below true id) (map insertion_of es ++ more)
  parted_behind [] more parted i j d up within h = parted i j d up within h
  parted_behind (e ∷ es) more parted zero j d up within h = refl
  parted_behind (e ∷ es) more parted (suc i) zero d up within h = absurd (omega (arith, up))
  parted_behind (e ∷ es) more parted (suc i) (suc j) d up within h = parted_behind es more parted i j d (omega (arith, up)) (omega (arith, within)) h

  abbrev is_deleted_at : Option Op → Bool
  is_deleted_at o = option_map_or (is_deletion_of id) o false

  behind_tells : (es : List (Identifier × Element)) (more : List Op) (b : Bool) → ((k : ℕ) → IsPlaceBy (is_below true id) more k → is_deleted_at (slice_get more k) ≡ b) → (k : ℕ) → IsPlaceBy (is_below true id) (map insertion_of es ++ more) k → is_deleted_at (slice_get (map insertion_of es ++ more) k) ≡ b
  behind_tells [] more b tells k place = tells k place
  behind_tells (e ∷ es) more b tells zero place = absurd (true≢false (place.1 0 (insertion_of e) (omega arith) (omega arith)))
  behind_tells (e ∷ es) more b tells (suc k) place = behind_tells es more b tells k (later_place (is_below true id) (insertion_of e) (map insertion_of es ++ more) k place)

itself : (b : Bool) → b ≡ cond b true false
itself true = refl
itself false = refl

module _ (c : Content) (ops : List Op) (are : ops ≡ operations c) (id : Identifier) where
  abbrev deleted : FinMap id_cmp (Unit {0})
  deleted = finite_map.from_entries {R = id_cmp} (map alone (finite_set.items c.deleted))

  abbrev back : List Op
  back = map gone (finite_map.entries deleted) ++ []

  listed : ops ≡ map insertion_of (finite_map.entries c.inserted) ++ back
  listed = are ∙ ap (λ (os : List Op). map insertion_of (finite_map.entries c.inserted) ++ os) (deletions_are (finite_map.entries deleted))

  parted : (deletion : Bool) → IsPartitionedBy (is_below deletion id) ops
  parted false = subst (IsPartitionedBy (is_below false id)) (sym listed)
      (parted_by id insertion_of (is_below false id) (λ e. refl) back (no_deletion_below id (finite_map.entries deleted)) (finite_map.entries c.inserted) (finite_map.entries_sorted c.inserted))
  parted true = subst (IsPartitionedBy (is_below true id)) (sym listed)
      (parted_behind id (finite_map.entries c.inserted) back (parted_by id gone (is_below true id) (λ d. refl) [] (λ j d within h. omega (arith, within)) (finite_map.entries deleted) (finite_map.entries_sorted deleted)))

  place_tells_element : (place : ℕ) → IsPlaceOf false id ops place → option_and_then (element_of_op id) (slice_get ops place) ≡ element_at c id
  place_tells_element place at =
      let said : Option Element → Option (Identifier × ℕ) = λ o. option_map (λ x. (x.parent, x.ch)) o in
      ap (λ (os : List Op). option_and_then (element_of_op id) (slice_get os place)) listed
      ∙ place_tells id insertion_of (is_below false id) (λ e. refl) back (no_deletion_below id (finite_map.entries deleted)) (option_and_then (element_of_op id)) said (λ e. refl) (no_element id (finite_map.entries deleted))
      (finite_map.entries c.inserted) (finite_map.entries_sorted c.inserted) place (subst (λ os. IsPlaceOf false id os place) listed at)
      ∙ ap said (sym (finite_map.get-entries c.inserted id))

  -- what is at the place of an identifier tells of its insertion, and none is there where the list has ended
  pub told : (place : ℕ) (op : Op) → IsPlaceOf false id ops place → place < length ops → op ≡ get_or ops place op → element_of_op id op ≡ element_at c id
  told place op at within is = ap (option_and_then (element_of_op id)) (sym (slice_get_read ops (length ops) place op refl within is)) ∙ place_tells_element place at

  pub none_told : (place : ℕ) → IsPlaceOf false id ops place → length ops ≤ place → None ≡ element_at c id
  none_told place at past = ap (option_and_then (element_of_op id)) (sym (slice_get_past ops place past)) ∙ place_tells_element place at

  place_tells_deletion : (place : ℕ) → IsPlaceOf true id ops place → is_deleted_at id (slice_get ops place) ≡ finite_set.contains c.deleted id
  place_tells_deletion place at =
      ap (λ (os : List Op). is_deleted_at id (slice_get os place)) listed
      ∙ behind_tells id (finite_map.entries c.inserted) back (is_some (find id_cmp id (finite_map.entries deleted)))
      (place_tells id gone (is_below true id) (λ d. refl) [] (λ j d within h. omega (arith, within)) (is_deleted_at id) is_some (λ d. itself (is_id d.0 id)) (λ k. refl) (finite_map.entries deleted) (finite_map.entries_sorted deleted))
      place (subst (λ os. IsPlaceOf true id os place) listed at)
      ∙ ap is_some (sym (finite_map.get-entries deleted id))
      ∙ finite_map.contains_key-keys deleted id
      ∙ any-rising (finite_set.items c.deleted) id
      ∙ sym (finite_set.contains-items c.deleted id)

  -- and so does what is at the place of its deletion
  pub deletion_told : (place : ℕ) (op : Op) → IsPlaceOf true id ops place → place < length ops → op ≡ get_or ops place op → is_deletion_of id op ≡ finite_set.contains c.deleted id
  deletion_told place op at within is = ap (λ o. option_map_or (is_deletion_of id) o false) (sym (slice_get_read ops (length ops) place op refl within is)) ∙ place_tells_deletion place at

  pub none_deleted : (place : ℕ) → IsPlaceOf true id ops place → length ops ≤ place → false ≡ finite_set.contains c.deleted id
  none_deleted place at past = ap (λ o. option_map_or (is_deletion_of id) o false) (sym (slice_get_past ops place past)) ∙ place_tells_deletion place at

  -- each before one that is below the identifier is below it
  pub below_up_to : (deletion : Bool) (place : ℕ) (op : Op) → place < length ops → op ≡ get_or ops place op → is_below deletion id op ≡ true → AreBelowUpTo deletion id ops (place + 1)
  below_up_to deletion place op within at h k d from to =
      parted deletion k place d (omega (arith, to)) within (ap (is_below deletion id) (sym (get_or_read ops place op within at d)) ∙ h)

  -- and none behind one that is not
  pub none_below_from : (deletion : Bool) (place : ℕ) (op : Op) → place < length ops → op ≡ get_or ops place op → is_below deletion id op ≡ false → AreNotBelowFrom deletion id ops place
  none_below_from deletion place op within at h k d from to = by_choice (is_below deletion id (get_or ops k d)) refl
    where
      by_choice : (b : Bool) → is_below deletion id (get_or ops k d) ≡ b → b ≡ false
      by_choice true is = absurd (true≢false (sym (parted deletion place k d from to is) ∙ ap (is_below deletion id) (sym (get_or_read ops place op within at d)) ∙ h))
      by_choice false is = refl

-- the operations of a content stand for this content
pub content_of_listed : (c : Content) (ops : List Op) → ops ≡ operations c → content_of ops ≡ c
content_of_listed c ops are = ap content_of are ∙ content_of-operations c
