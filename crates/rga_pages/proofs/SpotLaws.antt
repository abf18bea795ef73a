-- Where an identifier is: how that is seen, and what a change there makes of all entries.
use Rattle.std.proofs.Common.{◌≡◌, ℕ, ◌+◌, ◌<◌, ◌≤◌, suc, Bool, true, false, List, [], ◌∷◌, ◌++◌, length, take, drop, slice_index_or, refl, sym, ap, ◌∙◌, subst, arith, append_assoc, true≢false, add-one}
use Rattle.std.specs.Prelude.{Some, None, insert, remove, slice_set}
use Rattle.std.specs.BTreeMap.{insert_entry}
use Rattle.std.specs.Cmp.{tied_itself}
use Rattle.std.specs.Ordering.{is_lt, is_gt}
use Rattle.std.proofs.lemmas.List.{get_or_default, length-drop, take_more, drop_more, set_split}
use Rattle.std.specs.List.Sorted.{IsStrictlySortedBy}
use Rattle.std.specs.Map.{remove_entry, set_value}
use Rattle.rga_ops.specs.Identifier.{Identifier, id_cmp}
use Rattle.rga_ops.proofs.IdentifierLaws.{is, ids_total}
use Rattle.rga_pages.specs.declared.entry.Record.{Record}
use Rattle.rga_pages.specs.Pages.{Entries, record_of, entries_in, entries_before, entries_behind, AreOrdered, AreBelow, StartsAbove, StartsAt, AreFilledPages, ArePages, IsSpot}
use Rattle.rga_pages.proofs.EntryLaws.{not_less, ordered_front, before_below, above_append, above_some, below_append, insert_between, insert_over, set_between, ordered_insert, remove_between, ordered_remove, record_between, record_absent}
use Rattle.rga_pages.proofs.PartLaws.{place_at, parted, before_is, changed_there, part_gone}
use Rattle.rga_pages.proofs.PlaceLaws.{behind_is, index_there, Stood, stood}

pub no_pages : ArePages []
unfolding IsStrictlySortedBy
no_pages = record { ordered = tt; filled = tt }

module _ (ps : List Entries) (p i : ℕ) (id : Identifier) (d : Entries) (w : p < length ps) where
  abbrev the_page : slice_index_or ps p [] ≡ slice_index_or ps p d
  the_page = get_or_default ps p [] d w

  -- in the page in which it must be
  pub spot_in : (found : Bool) → AreBelow id (entries_in (take p ps)) → StartsAbove id (entries_in (drop (p + 1) ps))
      → i ≤ length (slice_index_or ps p d) → AreBelow id (take i (slice_index_or ps p d))
      → (found ≡ true → StartsAt id (drop i (slice_index_or ps p d))) → (found ≡ false → StartsAbove id (drop i (slice_index_or ps p d))) → IsSpot ps p i found id
  spot_in found below above within here there absent = record {
    place = place_at ps p i d w within;
    below = subst (AreBelow id) (sym (before_is ps p i d w)) (below_append id (entries_in (take p ps)) (take i (slice_index_or ps p d)) below here);
    there = λ t. subst (λ y. StartsAt id (drop i y)) (sym the_page) (there t);
    absent = λ f. subst (StartsAbove id) (sym (behind_is ps p i d w))
        (above_append id (drop i (slice_index_or ps p d)) (entries_in (drop (suc p) ps)) (absent f) (subst (λ n. StartsAbove id (entries_in (drop n ps))) (add-one p) above));
  }

  -- before an entry of that page
  pub spot_on : (found : Bool) → AreBelow id (entries_in (take p ps)) → i < length (slice_index_or ps p d) → AreBelow id (take i (slice_index_or ps p d))
      → (found ≡ true → StartsAt id (drop i (slice_index_or ps p d))) → (found ≡ false → StartsAbove id (drop i (slice_index_or ps p d))) → IsSpot ps p i found id
  spot_on found below within here there absent = record {
    place = place_at ps p i d w (omega (arith, within));
    below = subst (AreBelow id) (sym (before_is ps p i d w)) (below_append id (entries_in (take p ps)) (take i (slice_index_or ps p d)) below here);
    there = λ t. subst (λ y. StartsAt id (drop i y)) (sym the_page) (there t);
    absent = λ f. subst (StartsAbove id) (sym (behind_is ps p i d w))
        (above_some id (drop i (slice_index_or ps p d)) (entries_in (drop (suc p) ps)) (omega (arith, length-drop i (slice_index_or ps p d), within)) (absent f));
  }

  -- where it is seen
  pub spot_there : (e : Identifier × Record) → i < length (slice_index_or ps p d) → (slice_index_or (slice_index_or ps p d) i e).0 ≡ id → AreOrdered (entries_in ps) → IsSpot ps p i true id
  spot_there e h is ordered =
      let there : StartsAt id (drop i (slice_index_or ps p d)) = subst (StartsAt id) (sym (drop_more (slice_index_or ps p d) i e h)) is in
      let stands : Stood ps p i id = stood ps p i id d w there in
      let parts : AreOrdered (entries_before ps p i ++ stands.entry ∷ entries_behind ps p (suc i)) = subst AreOrdered (parted ps p i ∙ ap (λ r. entries_before ps p i ++ r) stands.behind_it) ordered in
      record {
        place = place_at ps p i d w (omega arith);
        below = before_below id (entries_before ps p i) stands.entry (entries_behind ps p (suc i)) parts (ap (λ k. is_lt (id_cmp id k)) stands.named ∙ ap is_lt (tied_itself ids_total id));
        there = λ t. subst (λ y. StartsAt id (drop i y)) (sym the_page) there;
        absent = λ f. absurd (true≢false f);
      }

  -- between two entries that stand side by side
  pub spot_between : (j : ℕ) → suc j ≡ i → i < length (slice_index_or ps p d) → (e f : Identifier × Record) → is_gt (id_cmp id (slice_index_or (slice_index_or ps p d) j e).0) ≡ true → is_lt (id_cmp id (slice_index_or (slice_index_or ps p d) i f).0) ≡ true → AreOrdered (entries_in ps) → IsSpot ps p i false id
  spot_between j next h e f larger less ordered =
      let page : Entries = slice_index_or ps p d in
      let last : Identifier × Record = slice_index_or page j e in
      let before : entries_before ps p i ≡ (entries_in (take p ps) ++ take j page) ++ last ∷ [] =
      before_is ps p i d w
      ∙ ap (λ n. entries_in (take p ps) ++ take n page) (sym next ∙ sym (add-one j))
      ∙ ap (λ xs. entries_in (take p ps) ++ xs) (take_more page j e (omega (arith, next, h)))
      ∙ sym (append_assoc (entries_in (take p ps)) (take j page) (last ∷ [])) in
      let front : AreOrdered ((entries_in (take p ps) ++ take j page) ++ last ∷ []) =
      subst AreOrdered before (ordered_front (entries_before ps p i) (entries_behind ps p i) (subst AreOrdered (parted ps p i) ordered)) in
      record {
        place = place_at ps p i d w (omega (arith, h));
        below = subst (AreBelow id) (sym before)
            (below_append id (entries_in (take p ps) ++ take j page) (last ∷ []) (before_below id (entries_in (take p ps) ++ take j page) last [] front (not_less _ larger)) (larger, tt));
        there = λ t. absurd (true≢false (sym t));
        absent = λ _. subst (StartsAbove id) (sym (behind_is ps p i d w ∙ ap (λ xs. xs ++ entries_in (drop (suc p) ps)) (drop_more page i f h))) less;
      }

  -- ---- where it is

  module _ (spot : IsSpot ps p i true id) where
    pub stands : Stood ps p i id
    stands = stood ps p i id [] w (spot.there refl)

    pub index_found : i < length (slice_index_or ps p d)
    index_found = index_there (slice_index_or ps p d) i id (subst (λ y. StartsAt id (drop i y)) the_page (spot.there refl))

    whole : entries_in ps ≡ entries_before ps p i ++ stands.entry ∷ entries_behind ps p (suc i)
    whole = parted ps p i ∙ ap (λ r. entries_before ps p i ++ r) stands.behind_it

    pub record_there : (e : Identifier × Record) → record_of id (entries_in ps) ≡ Some (slice_index_or (slice_index_or ps p d) i e).1
    record_there e = ap (record_of id) whole ∙ record_between id (entries_before ps p i) stands.entry (entries_behind ps p (suc i)) spot.below stands.named ∙ ap (λ (x : Identifier × Record). Some x.1) (sym (stands.is d e w))

    set_there : (value : Record) → entries_in (slice_set ps p (slice_set (slice_index_or ps p d) i (id, value))) ≡ entries_before ps p i ++ (id, value) ∷ entries_behind ps p (suc i)
    set_there value = ap (λ y. entries_in (slice_set ps p y)) (set_split (slice_index_or ps p d) i (id, value) index_found) ∙ changed_there ps p i (suc i) ((id, value) ∷ []) d w

    pub set_spot : (value : Record) → entries_in (slice_set ps p (slice_set (slice_index_or ps p d) i (id, value))) ≡ insert_entry id_cmp (entries_in ps) id value
    set_spot value =
        set_there value
        ∙ sym (insert_over id value (entries_before ps p i) stands.entry (entries_behind ps p (suc i)) spot.below stands.named)
        ∙ ap (λ es. insert_entry id_cmp es id value) (sym whole)

    pub set_is : (value : Record) → entries_in (slice_set ps p (slice_set (slice_index_or ps p d) i (id, value))) ≡ set_value (is id) (entries_in ps) value
    set_is value =
        set_there value
        ∙ sym (set_between id value (entries_before ps p i) stands.entry (entries_behind ps p (suc i)) spot.below stands.named)
        ∙ ap (λ es. set_value (is id) es value) (sym whole)

    removed_is : entries_before ps p i ++ entries_behind ps p (suc i) ≡ remove_entry (is id) (entries_in ps)
    removed_is = sym (remove_between id (entries_before ps p i) stands.entry (entries_behind ps p (suc i)) spot.below stands.named) ∙ ap (remove_entry (is id)) (sym whole)

    pub remove_spot : entries_in (slice_set ps p (remove (slice_index_or ps p d) i)) ≡ remove_entry (is id) (entries_in ps)
    remove_spot = changed_there ps p i (suc i) [] d w ∙ removed_is

    pub remove_page : length (slice_index_or ps p d) ≡ 1 → entries_in (remove ps p) ≡ remove_entry (is id) (entries_in ps)
    remove_page one = part_gone ps p i d w one (let n : i < length (slice_index_or ps p d) = index_found in omega arith) ∙ removed_is

  -- ---- where it would come in

  module _ (spot : IsSpot ps p i false id) where
    pub put_is : (value : Record) → entries_before ps p i ++ (id, value) ∷ entries_behind ps p i ≡ insert_entry id_cmp (entries_in ps) id value
    put_is value = sym (insert_between id value (entries_before ps p i) (entries_behind ps p i) spot.below (spot.absent refl)) ∙ ap (λ es. insert_entry id_cmp es id value) (sym (parted ps p i))

    pub put_spot : (value : Record) → entries_in (slice_set ps p (insert (slice_index_or ps p d) i (id, value))) ≡ insert_entry id_cmp (entries_in ps) id value
    put_spot value = changed_there ps p i i ((id, value) ∷ []) d w ∙ put_is value

pub record_none : {ps : List Entries} {p i : ℕ} {found : Bool} {id : Identifier} → IsSpot ps p i found id → found ≡ false → AreOrdered (entries_in ps) → record_of id (entries_in ps) ≡ None
record_none {ps = ps} {p = p} {i = i} {id = id} spot none ordered =
    ap (record_of id) (parted ps p i)
    ∙ record_absent id (entries_before ps p i) (entries_behind ps p i) (subst AreOrdered (parted ps p i) ordered) spot.below (spot.absent none)

-- ---- what is kept

pub inserted_pages : (ps qs : List Entries) (id : Identifier) (value : Record) → ArePages ps → entries_in qs ≡ insert_entry id_cmp (entries_in ps) id value → AreFilledPages qs → ArePages qs
inserted_pages ps qs id value kept h filled = record {
  ordered = subst AreOrdered (sym h) (ordered_insert id value (entries_in ps) kept.ordered);
  filled = filled;
}

pub removed_pages : (ps qs : List Entries) (id : Identifier) → ArePages ps → entries_in qs ≡ remove_entry (is id) (entries_in ps) → AreFilledPages qs → ArePages qs
removed_pages ps qs id kept h filled = record {
  ordered = subst AreOrdered (sym h) (ordered_remove id (entries_in ps) kept.ordered);
  filled = filled;
}
