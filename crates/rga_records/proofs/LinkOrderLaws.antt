-- How the order of the elements grows as records are gone through by rising identifier: no identifier before is larger, so
-- each new element goes directly behind its parent.
use Rattle.std.proofs.Common.{arith, ◌≡◌, true, cond, ◌||◌, List, [], ◌∷◌, ◌++◌, filter, is_some, refl, sym, ap, ◌∙◌, subst}
use Rattle.std.specs.Prelude.{Option, Some, None}
use Rattle.std.specs.Option.{option_map}
use Rattle.std.specs.Cmp.{tied_itself}
use Rattle.std.specs.Ordering.{is_gt, is_lt, is_eq, ordering_reverse}
use Rattle.std.specs.declared.cmp.Ordering.TheVariants.{Less}
use Rattle.std.specs.List.{AllByRecursion, list_any, cons_option}
use Rattle.std.specs.Map.{keys_of}
use Rattle.std.specs.FinMap as finite_map
use Rattle.std.specs.FinMap.{FinMap}
use Rattle.std.specs.FinSet as finite_set
use Rattle.std.proofs.lemmas.List.{map-append}
use Rattle.std.proofs.lemmas.List.Elements.{filter-append, filter_map-append}
use Rattle.std.proofs.lemmas.List.Folds.{list_any-append}
use Rattle.std.proofs.lemmas.Map.Made.{is_some-lookup}
use Rattle.rga_ops.specs.Identifier.{Identifier, id_cmp, is_id, is_root}
use Rattle.rga_ops.specs.Content.{Element, Content, IsSound, IsWithin, join, single, union}
use Rattle.rga_ops.specs.RootPath.{is_complete}
use Rattle.rga_ops.specs.Order.{order}
use Rattle.rga_ops.specs.Placement.{change_after, put_behind, put_past_larger, put_by_skip_rule}
use Rattle.rga_ops.specs.declared.op.Op.TheVariants.{Insert}
use Rattle.rga_ops.proofs.IdentifierLaws.{ids_total, is}
use Rattle.rga_ops.proofs.MemberLaws.{all_map, of_member}
use Rattle.rga_ops.proofs.ContentLaws.{same_content, contains-join, join_nothing, within_join}
use Rattle.rga_ops.proofs.AnswerLaws.{well_formed_insertion}
use Rattle.rga_ops.proofs.PathLaws.{inserted_if_complete}
use Rattle.rga_ops.proofs.InsertionLaws.{IsNewLeaf, get-inserted}
use Rattle.rga_ops.proofs.SkipLaws.{order_by_skip_rule, sound_rises}
use Rattle.rga_ops.proofs.VisibleLaws.{order_complete}
use Rattle.rga_store.proofs.StepLaws.{sound_within}
use Rattle.rga_pages.specs.declared.entry.Record.{Record}
use Rattle.rga_pages.proofs.EntryLaws.{greater, ordered_front, ordered_back, before_below}
use Rattle.rga_pages.specs.Pages.{AreBelow}
use Rattle.rga_records.specs.Records.{Entries, AreOrdered, element_of_record, marked_record_ids, content_of_records}
use Rattle.rga_records.proofs.RecordLaws.{inserted_at, some_inserted}
use Rattle.rga_records.proofs.SortedRecordLaws.{insertions_listed}

-- ---- records behind others

module _ (done rest : Entries) (ordered : AreOrdered (done ++ rest)) where
  -- the insertions of both
  inserted-append : (content_of_records (done ++ rest)).inserted ≡ union (content_of_records done).inserted (content_of_records rest).inserted
  inserted-append = grind (arith, filter_map-append, insertions_listed, ordered_front, ordered_back)

  marked-append : marked_record_ids (done ++ rest) ≡ marked_record_ids done ++ marked_record_ids rest
  marked-append = ap keys_of (filter-append (λ e. e.1.deleted) done rest) ∙ map-append (λ e. e.0) (filter (λ e. e.1.deleted) done) (filter (λ e. e.1.deleted) rest)

  -- they stand for what both stand for
  content-append : content_of_records (done ++ rest) ≡ join (content_of_records done) (content_of_records rest)
  content-append = same_content _ _
      (λ q. ap (λ m. finite_map.get m q) inserted-append)
      (λ q. finite_set.contains-from_list ids_total (marked_record_ids (done ++ rest)) q
      ∙ ap (list_any (is q)) marked-append ∙ list_any-append (is q) (marked_record_ids done) (marked_record_ids rest)
      ∙ (λ k. sym (finite_set.contains-from_list ids_total (marked_record_ids done) q) k || sym (finite_set.contains-from_list ids_total (marked_record_ids rest) q) k)
      ∙ sym (contains-join (content_of_records done) (content_of_records rest) q))

-- a beginning of sound records is sound
pub sound_front : (done rest : Entries) → AreOrdered (done ++ rest) → IsSound (content_of_records (done ++ rest)) → IsSound (content_of_records done)
sound_front done rest ordered =
    let c : Content = content_of_records done in
    sound_within c (content_of_records (done ++ rest)) (subst (IsWithin c) (sym (content-append done rest ordered)) (within_join c (content_of_records rest)))

-- ---- insertions alone

-- these insertions, and no deletions: the order, and what is complete, are those of any content with these insertions
abbrev with_insertions : FinMap id_cmp Element → Content
with_insertions m = record { inserted = m; deleted = finite_set.empty }

-- the insertion of an element, or none
abbrev insertion_alone : Identifier → Option Element → FinMap id_cmp Element
insertion_alone id o = finite_map.from_entries (cons_option (option_map (λ x. (id, x)) o) [])

-- ---- a record without an element

module _ (done : Entries) (e : Identifier × Record) (ordered : AreOrdered (done ++ e ∷ [])) (none : element_of_record e.1 ≡ None) where
  inserted-unlinked : (content_of_records (done ++ e ∷ [])).inserted ≡ (content_of_records done).inserted
  inserted-unlinked =
      let c : Content = content_of_records done in
      inserted-append done (e ∷ []) ordered ∙ ap (λ o. union c.inserted (insertion_alone e.0 o)) none ∙ ap (λ (d : Content). d.inserted) (join_nothing c)

  -- changes nothing of the order
  pub order_unlinked : order (content_of_records (done ++ e ∷ [])) ≡ order (content_of_records done)
  order_unlinked = ap (λ m. order (with_insertions m)) inserted-unlinked

-- ---- where no identifier is larger

keys_smaller : (id : Identifier) (es : Entries) → AreBelow id es → AllByRecursion (λ k. id_cmp k id ≡ Less) (keys_of es)
keys_smaller id [] below = tt
keys_smaller id (e ∷ es) below = (ids_total.antisymm e.0 id ∙ ap ordering_reverse (greater (id_cmp id e.0) below.0), keys_smaller id es below.1)

-- an identifier passes none
module _ (parent id : Identifier) where
  past_none : (xs : List Identifier) → AllByRecursion (λ k. id_cmp k id ≡ Less) xs → put_past_larger id xs ≡ id ∷ xs
  past_none [] h = refl
  past_none (x ∷ xs) h = ap (λ o. cond (is_gt o) (x ∷ put_past_larger id xs) (id ∷ x ∷ xs)) h.0

  after_parent : (xs : List Identifier) → AllByRecursion (λ k. id_cmp k id ≡ Less) xs → change_after parent (put_past_larger id) xs ≡ change_after parent (λ ys. id ∷ ys) xs
  after_parent [] h = refl
  after_parent (x ∷ xs) h = λ k. cond (is_id x parent) (x ∷ past_none xs h.1 k) (x ∷ after_parent xs h.1 k)

  directly_behind : (xs : List Identifier) → AllByRecursion (λ k. id_cmp k id ≡ Less) xs → put_by_skip_rule parent id xs ≡ put_behind parent id xs
  directly_behind xs h = λ k. cond (is_root parent) (past_none xs h k) (after_parent xs h k)

-- ---- a record with an element

module _ (done : Entries) (e : Identifier × Record) (x : Element) (ordered : AreOrdered (done ++ e ∷ [])) (sound : IsSound (content_of_records (done ++ e ∷ []))) (linked : element_of_record e.1 ≡ Some x) where
  abbrev c : Content
  c = content_of_records done

  inserted-linked : (content_of_records (done ++ e ∷ [])).inserted ≡ (join c (single (Insert e.0 x.parent x.ch))).inserted
  inserted-linked = inserted-append done (e ∷ []) ordered ∙ ap (λ o. union c.inserted (insertion_alone e.0 o)) linked

  sound_before : IsSound c
  sound_before = sound_front done (e ∷ []) ordered sound

  -- what was inserted before is smaller
  smaller : (k : Identifier) (y : Element) → finite_map.get c.inserted k ≡ Some y → id_cmp k e.0 ≡ Less
  smaller k y g =
      let before : AreOrdered done = ordered_front done (e ∷ []) ordered in
      of_member (λ q. id_cmp q e.0 ≡ Less) (keys_of done) k
      (keys_smaller e.0 done (before_below e.0 done e [] ordered (ap is_lt (tied_itself ids_total e.0))))
      (sym (is_some-lookup (is k) done) ∙ some_inserted _ (ap is_some (sym (inserted_at done before k) ∙ g)))

  absent : finite_map.get c.inserted e.0 ≡ None
  absent = elim (finite_map.get c.inserted e.0) as (λ o. finite_map.get c.inserted e.0 ≡ o → o ≡ None) [
    | None ↦ λ g. refl
    | Some y ↦ λ g. absurd (let no = sym (tied_itself ids_total e.0) ∙ smaller e.0 y g in cc)
  ] refl

  held : finite_map.get (content_of_records (done ++ e ∷ [])).inserted e.0 ≡ Some x
  held = ap (λ m. finite_map.get m e.0) inserted-linked ∙ get-inserted c e.0 x.parent x.ch absent

  leaf : IsNewLeaf c e.0
  leaf = record {
    element = (well_formed_insertion e.0 x.parent x.ch (sound (Insert e.0 x.parent x.ch) held)).0;
    absent = absent;
    childless = λ k y g. ap is_eq (ids_total.trans y.parent k e.0 (sound_rises c sound_before k y g) (smaller k y g));
  }

  order_smaller : AllByRecursion (λ k. id_cmp k e.0 ≡ Less) (order c)
  order_smaller =
      all_map (λ k. is_complete c k ≡ true) (λ k. id_cmp k e.0 ≡ Less) (λ k w. let there = inserted_if_complete c k w in smaller k there.0 there.1) (order c) (order_complete c)

  -- its element goes directly behind its parent
  pub order_linked : order (content_of_records (done ++ e ∷ [])) ≡ put_behind x.parent e.0 (order c)
  order_linked =
      ap (λ m. order (with_insertions m)) inserted-linked
      ∙ order_by_skip_rule c e.0 x.parent x.ch leaf (sound_rises c sound_before) (sound_rises (content_of_records (done ++ e ∷ [])) sound e.0 x held)
      ∙ directly_behind x.parent e.0 (order c) order_smaller
