-- What a flat store keeps, once an element waits or an element is deleted.
use Rattle.std.proofs.Common.{◌≡◌, Bool, true, false, ◌&&◌, ◌||◌, ℕ, List, [], ◌∷◌, ◌++◌, refl, sym, ap, ◌∙◌, subst, true≢false, cond, arith}
use Rattle.std.specs.Prelude.{Option, Some, None}
use Rattle.std.specs.Option.{option_map_or}
use Rattle.std.specs.List.{list_any, AllByRecursion, IsDistinct}
use Rattle.std.specs.FinMap as finite_map
use Rattle.std.specs.FinSet as finite_set
use Rattle.std.proofs.Math.Bool.{or-false}
use Rattle.std.proofs.lemmas.Option.{none-some}
use Rattle.std.proofs.lemmas.List.Folds.{list_any-append}
use Rattle.rga_ops.specs.Identifier.{Identifier, id_cmp, is_id}
use Rattle.rga_ops.specs.Content.{Element, element, Content, nothing, IsSound, IsWithin, join, single}
use Rattle.rga_ops.specs.RootPath.{is_complete}
use Rattle.rga_ops.specs.Order.{order}
use Rattle.rga_ops.proofs.IdentifierLaws.{ids_total, is, is_itself, is_swap, same_id, is_id-same, is_id-is, is_id-itself}
use Rattle.rga_ops.proofs.MemberLaws.{all_map}
use Rattle.rga_ops.proofs.PathLaws.{inserted_if_complete}
use Rattle.rga_ops.proofs.ContentLaws.{within_join, within_chain, same_content}
use Rattle.rga_ops.proofs.OrderLaws.{order_list}
use Rattle.rga_ops.proofs.GrowLaws.{complete_stays}
use Rattle.rga_ops.proofs.DeletionLaws.{inserted-deletion, order-deletion}
use Rattle.rga_ops.proofs.InsertionLaws.{get-elsewhere, contains-insertion}
use Rattle.rga_ops.proofs.ListSteps.{get-insertion, get-deletion}
use Rattle.rga_ops.specs.declared.op.Op.TheVariants.{Insert, Delete}
use Rattle.rga_sequence.specs.declared.entry.Entry.{Entry}
use Rattle.rga_sequence.specs.Entries.{ids, has, as_marked, mark_entry}
use Rattle.rga_sequence.proofs.IdLaws.{ids_marked}
use Rattle.rga_store.specs.Without.{without_insertion}
use Rattle.rga_store.specs.Child.{is_child}
use Rattle.rga_store.proofs.StepLaws.{deleted_now, deleted_then, sound_within}
use Rattle.rga_flat.specs.Flat.{is_above, IsEntryOf, AreMarked, IsFlat}
use Rattle.rga_flat.specs.Placing.{IsPlacing}
use Rattle.rga_flat.specs.Based.{IsBased}
use Rattle.rga_flat.proofs.EntryLaws.{either}
use Rattle.std.proofs.lemmas.Map.Keys.{IsDistinct-push}
use Rattle.std.specs.Cmp.{eq_by_cmp_equiv}
use Rattle.rga_store.proofs.WithoutLaws.{left_inserted}
use Rattle.rga_flat.proofs.PlacingLaws.{of_root, of_complete, above_cases, low_waits, as_complete, order_stays, has_listed, place_start}

-- ---- nothing

none_complete : (k : Identifier) → is_complete nothing k ≡ false
none_complete k = either (is_complete nothing k) (λ t. let y = inserted_if_complete nothing k t in absurd (none-some _ (sym (finite_map.get-empty id_cmp k) ∙ y.1))) (λ f. f)

order_nothing : order nothing ≡ []
order_nothing = none (order nothing) (λ k. (order_list nothing).elements k ∙ none_complete k)
  where
    none : (xs : List Identifier) → ((k : Identifier) → list_any (is k) xs ≡ false) → xs ≡ []
    none [] h = refl
    none (x ∷ xs) h = absurd (true≢false (sym (ap (λ b. b || list_any (is x) xs) (is_itself x)) ∙ h x))

no_child : (p k : Identifier) → is_child nothing p k ≡ false
no_child p k = ap (λ (o : Option Element). option_map_or (λ x. is_id x.parent p) o false) (finite_map.get-empty id_cmp k)

pub flat_nothing : (es : List Entry) (K : Identifier → List Identifier) (N : Identifier → Bool) → es ≡ [] → ((p : Identifier) → K p ≡ []) → ((p : Identifier) → N p ≡ false) → IsFlat nothing es K N
unfolding IsDistinct
flat_nothing es K N empty lists marks = record {
  listed = ap ids empty ∙ sym order_nothing;
  shown = subst (λ xs. AllByRecursion (IsEntryOf nothing) xs) (sym empty) tt;
  children = record {
    exact = λ p h k. ap (list_any (is k)) (lists p) ∙ sym (no_child p k);
    once = λ p h. subst (λ ks. IsDistinct is ks) (sym (lists p)) tt;
  };
  marks = record {
    waits = λ k x g h. absurd (none-some _ (sym (finite_map.get-empty id_cmp k) ∙ g));
    complete = λ k h. marks k;
  };
}

-- ---- an element that waits

child_now : (c : Content) (id parent : Identifier) (ch : ℕ) (p k : Identifier) → finite_map.get c.inserted id ≡ None → is_child (join c (single (Insert id parent ch))) p k ≡ (is_child c p k || (is_id parent p && is_id id k))
child_now c id parent ch p k none = grind (arith, get-insertion c id parent ch k none, none, is_id-same id k, is_id-is id k)

-- which lists there are now
abbrev pub StaysListed : (Identifier → Bool) → (Identifier → Bool) → Identifier → Identifier → Type 0
StaysListed N N' id parent = ((k : Identifier) → N k ≡ true → N' k ≡ true) × ((k : Identifier) → is id k ≡ false → is parent k ≡ false → N' k ≡ N k)

module _ (c : Content) (id parent : Identifier) (absent : finite_map.get c.inserted id ≡ None) (low : is_above c parent ≡ false) (es : List Entry) (K K' : Identifier → List Identifier) (N N' : Identifier → Bool) (flat : IsFlat c es K N) (lists : StaysListed N N' id parent) where
  other_complete : (k : Identifier) → is_complete c k ≡ true → N' k ≡ false
  other_complete k h = grind (arith, lists.1 k, same_id id k, inserted_if_complete c k h, same_id parent k, low_waits c parent low, flat.marks.complete k h)

  -- where it came to nothing
  pub flat_same : ((p : Identifier) → K' p ≡ K p) → IsFlat c es K' N'
  flat_same same =
      let alike : K' ≡ K = λ i p. same p i in
      rw alike (record {
        listed = flat.listed;
        shown = flat.shown;
        children = flat.children;
        marks = record { waits = λ k x g h. lists.0 k (flat.marks.waits k x g h); complete = other_complete };
      })

  module _ (sound : IsSound c) (ch : ℕ) (own : N' id ≡ true) (pushed : (p : Identifier) → K' p ≡ cond (is parent p) (K p ++ id ∷ []) (K p)) where
    abbrev d : Content
    d = join c (single (Insert id parent ch))

    low_now : (p : Identifier) → is_above d p ≡ false → is_above c p ≡ false
    low_now p h = grind (arith, above_cases c p, of_root d p, of_complete d p, complete_stays c d (within_join c (single (Insert id parent ch))) p, within_join c (single (Insert id parent ch)))

    waited : (k : Identifier) → is_complete d k ≡ false → is_complete c k ≡ false
    waited k h = either (is_complete c k) (λ t. absurd (true≢false (sym (complete_stays c d (within_join c (single (Insert id parent ch))) k t) ∙ h))) (λ f. f)

    shown_now : (e : Entry) → IsEntryOf c e → IsEntryOf d e
    shown_now e w = record {
      element = w.element;
      found = (within_join c (single (Insert id parent ch))).inserted e.id w.element w.found;
      character = w.character;
      deleted = w.deleted ∙ sym (contains-insertion c id parent ch e.id);
    }

    exact_now : (p : Identifier) → is_above c p ≡ false → (k : Identifier) → list_any (is k) (K' p) ≡ is_child d p k
    exact_now p h k = grind (arith, list_any-append (is k) (K p) (id ∷ []), flat.children.exact p h k, is_id-same id k, is_swap parent p, is_id-same parent p, child_now c id parent ch p k absent)

    once_now : (p : Identifier) → is_above c p ≡ false → IsDistinct is (K' p)
    once_now p h = grind (arith, IsDistinct-push (eq_by_cmp_equiv ids_total) (K p) id (flat.children.once p h), ids_total, flat.children.once p h, flat.children.exact p h id)

    -- where it waits
    pub flat_waits : IsFlat d es K' N'
    flat_waits = record {
      listed = flat.listed ∙ order_stays c sound id parent ch absent low;
      shown = all_map (IsEntryOf c) (IsEntryOf d) shown_now es flat.shown;
      children = record { exact = λ p h. exact_now p (low_now p h); once = λ p h. once_now p (low_now p h) };
      marks = record {
        waits = λ k x g h. either (is k id)
            (λ t. ap N' (same_id k id t) ∙ own)
            (λ f. lists.0 k (flat.marks.waits k x (sym (get-elsewhere c id parent ch k f) ∙ g) (waited k h)));
        complete = λ k h. other_complete k (as_complete c sound id parent ch absent low k h);
      };
    }

-- ---- a deletion

module _ (c : Content) (id : Identifier) where
  abbrev pub less : Content
  less = join c (single (Delete id))

  marked : (e : Entry) → IsEntryOf c e → is_id e.id id ≡ true → IsEntryOf less (as_marked true e)
  marked e w t = record {
    element = w.element;
    found = get-deletion c id e.id ∙ w.found;
    character = w.character;
    deleted = sym (deleted_now c id e.id ∙ ap (λ b. finite_set.contains c.deleted e.id || b) (is_swap e.id id ∙ sym (is_id-same e.id id) ∙ t) ∙ or_true (finite_set.contains c.deleted e.id));
  }
    where
      or_true : (b : Bool) → (b || true) ≡ true
      or_true b = grind arith

  unmarked : (e : Entry) → IsEntryOf c e → is_id e.id id ≡ false → IsEntryOf less e
  unmarked e w f = record {
    element = w.element;
    found = get-deletion c id e.id ∙ w.found;
    character = w.character;
    deleted = w.deleted ∙ sym (deleted_now c id e.id ∙ ap (λ b. finite_set.contains c.deleted e.id || b) (is_swap e.id id ∙ sym (is_id-same e.id id) ∙ f) ∙ or-false (finite_set.contains c.deleted e.id));
  }

  shown_deleted : (es : List Entry) → AllByRecursion (IsEntryOf c) es → AllByRecursion (IsEntryOf less) (mark_entry true id es)
  shown_deleted [] h = tt
  shown_deleted (e ∷ es) h = grind (arith, marked e h.0, unmarked e h.0, shown_deleted es h.1)

  shown_still : (es : List Entry) → AllByRecursion (IsEntryOf c) es → has id es ≡ false → AllByRecursion (IsEntryOf less) es
  shown_still [] h none = tt
  shown_still (e ∷ es) h none = grind (arith, none, unmarked e h.0, shown_still es h.1)

  module _ (es : List Entry) (K : Identifier → List Identifier) (N : Identifier → Bool) (flat : IsFlat c es K N) where
    changed : (fs : List Entry) → ids fs ≡ ids es → AllByRecursion (IsEntryOf less) fs → IsFlat less fs K N
    changed fs same shown = record {
      listed = same ∙ flat.listed ∙ sym (order-deletion c id);
      shown = shown;
      children = record { exact = rw (inserted-deletion c id) flat.children.exact; once = rw (inserted-deletion c id) flat.children.once };
      marks = record { waits = rw (inserted-deletion c id) flat.marks.waits; complete = rw (inserted-deletion c id) flat.marks.complete };
    }

    -- the element's entry is deleted
    pub flat_deleted : IsFlat less (mark_entry true id es) K N
    flat_deleted = changed (mark_entry true id es) (ids_marked true id es) (shown_deleted es flat.shown)

    -- what is not complete has no entry
    pub flat_still : is_complete c id ≡ false → IsFlat less es K N
    flat_still low = changed es refl (shown_still es flat.shown (has_listed c id es flat.listed ∙ low))

-- ---- an element that is held, and what there was before it

uninserted : (c : Content) (id : Identifier) → finite_map.get (without_insertion id c).inserted id ≡ None
uninserted c id = left_inserted c id id ∙ ap (λ b. cond b None (finite_map.get c.inserted id)) (is_itself id)

insertion_again : (c : Content) (id parent : Identifier) (ch : ℕ) → finite_map.get c.inserted id ≡ Some (element parent ch) → join (without_insertion id c) (single (Insert id parent ch)) ≡ c
insertion_again c id parent ch g = grind (arith, same_content, get-insertion (without_insertion id c) id parent ch, uninserted c id, left_inserted c id, same_id, deleted_then (without_insertion id c) id parent ch)

module _ (d : Content) (sound : IsSound d) (id parent : Identifier) (ch : ℕ) (held : finite_map.get d.inserted id ≡ Some (element parent ch)) (es : List Entry) (K : Identifier → List Identifier) (N : Identifier → Bool) (flat : IsFlat (without_insertion id d) es K N) where
  abbrev before : Content
  before = without_insertion id d

  again : join before (single (Insert id parent ch)) ≡ d
  again = insertion_again d id parent ch held

  sound_before : IsSound before
  sound_before = sound_within before d (subst (λ e. IsWithin before e) again (within_join before (single (Insert id parent ch)))) sound

  pub starts : is_above before parent ≡ true → IsPlacing d K N es (id ∷ [])
  starts h = subst (λ e. IsPlacing e K N es (id ∷ [])) again
      (place_start before sound_before id parent ch (uninserted d id) h (subst (λ e. IsSound e) (sym again) sound) es K N flat)

  module _ (K' : Identifier → List Identifier) (N' : Identifier → Bool) (low : is_above before parent ≡ false) (lists : StaysListed N N' id parent) where
    pub rests : N' id ≡ true → ((p : Identifier) → K' p ≡ cond (is parent p) (K p ++ id ∷ []) (K p)) → IsFlat d es K' N'
    rests own pushed = subst (λ e. IsFlat e es K' N') again (flat_waits before id parent (uninserted d id) low es K K' N N' flat lists sound_before ch own pushed)

    pub stays_before : ((p : Identifier) → K' p ≡ K p) → IsFlat before es K' N'
    stays_before same = flat_same before id parent (uninserted d id) low es K K' N N' flat lists same

-- ---- what it was based on

child_later : (c d : Content) → IsWithin c d → (p k : Identifier) → is_child c p k ≡ true → is_child d p k ≡ true
child_later c d w p k h = grind (arith, w.inserted k)

-- a content based on itself
pub based_self : (c : Content) (es : List Entry) (K : Identifier → List Identifier) (N : Identifier → Bool) → IsFlat c es K N → IsBased c c K N
based_self c es K N flat = record {
  within = record { inserted = λ k x g. g; deleted = λ k h. h };
  old = λ p low k h. flat.children.exact p low k ∙ h;
  now = λ p low k h. sym (flat.children.exact p low k) ∙ h;
  once = flat.children.once;
  marks = flat.marks;
}

-- a content that grows further
pub based_more : (base c d : Content) (K : Identifier → List Identifier) (E : Identifier → Bool) → IsWithin c d → IsBased base c K E → IsBased base d K E
based_more base c d K E w b = record {
  within = within_chain base c d b.within w;
  old = b.old;
  now = λ p low k h. child_later c d w p k (b.now p low k h);
  once = b.once;
  marks = b.marks;
}

module _ (base c : Content) (id parent : Identifier) (absent : finite_map.get c.inserted id ≡ None) (low : is_above c parent ≡ false) (K K' : Identifier → List Identifier) (E E' : Identifier → Bool) (lists : StaysListed E E' id parent) (b : IsBased base c K E) where
  base_absent : finite_map.get base.inserted id ≡ None
  base_absent = grind (arith, b.within.inserted id)

  marks_now : AreMarked base E'
  marks_now = record {
    waits = λ k x g h. lists.0 k (b.marks.waits k x g h);
    complete = λ k h.
        lists.1 k
        (either (is id k) (λ t. absurd (none-some _ (sym base_absent ∙ ap (finite_map.get base.inserted) (same_id id k t) ∙ (inserted_if_complete base k h).1))) (λ f. f))
        (either (is parent k) (λ t. absurd (true≢false (sym (complete_stays base c b.within k h) ∙ ap (is_complete c) (sym (same_id parent k t)) ∙ low_waits c parent low))) (λ f. f))
        ∙ b.marks.complete k h;
  }

  pub based_same : ((p : Identifier) → K' p ≡ K p) → IsBased base c K' E'
  based_same same = grind (arith, marks_now)

  module _ (ch : ℕ) (pushed : (p : Identifier) → K' p ≡ cond (is parent p) (K p ++ id ∷ []) (K p)) where
    abbrev grown : Content
    grown = join c (single (Insert id parent ch))

    in_grown : IsWithin c grown
    in_grown = within_join c (single (Insert id parent ch))

    own_child : is_child grown parent id ≡ true
    own_child = grind (arith, child_now c id parent ch parent id absent, is_id-itself parent, is_id-itself id)

    not_yet : (p : Identifier) → is_above base p ≡ false → list_any (is id) (K p) ≡ false
    not_yet p w = grind (arith, b.now p w id)

    member_now : (p k : Identifier) → is_above base p ≡ false → list_any (is k) (cond (is parent p) (K p ++ id ∷ []) (K p)) ≡ true → is_child grown p k ≡ true
    member_now p k w h = grind (arith, list_any-append (is k) (K p) (id ∷ []), child_later c grown in_grown p k, in_grown, b.now p w k, same_id k id, same_id parent p, own_child)

    pub based_waits : IsBased base grown K' E'
    based_waits = record {
      within = within_chain base c grown b.within in_grown;
      old = λ p w k h. grind (arith, list_any-append (is k) (K p) (id ∷ []), b.old p w k h);
      now = λ p w k h. member_now p k w (sym (ap (list_any (is k)) (pushed p)) ∙ h);
      once = λ p w. grind (arith, IsDistinct-push (eq_by_cmp_equiv ids_total) (K p) id (b.once p w) (not_yet p w), ids_total, b.once p w, not_yet p w);
      marks = marks_now;
    }

-- the same of an element that is held
module _ (d : Content) (id parent : Identifier) (ch : ℕ) (held : finite_map.get d.inserted id ≡ Some (element parent ch)) (base : Content) (K K' : Identifier → List Identifier) (E E' : Identifier → Bool) (b : IsBased base (without_insertion id d) K E) where
  pub based_then : IsBased base d K E
  based_then = based_more base (without_insertion id d) d K E (subst (λ e. IsWithin (without_insertion id d) e) (insertion_again d id parent ch held) (within_join (without_insertion id d) (single (Insert id parent ch)))) b

  module _ (low : is_above (without_insertion id d) parent ≡ false) (lists : StaysListed E E' id parent) where
    pub based_waiting : ((p : Identifier) → K' p ≡ cond (is parent p) (K p ++ id ∷ []) (K p)) → IsBased base d K' E'
    based_waiting pushed = subst (λ e. IsBased base e K' E') (insertion_again d id parent ch held) (based_waits base (without_insertion id d) id parent (uninserted d id) low K K' E E' lists b ch pushed)

    pub based_before : ((p : Identifier) → K' p ≡ K p) → IsBased base (without_insertion id d) K' E'
    based_before same = based_same base (without_insertion id d) id parent (uninserted d id) low K K' E E' lists b same

-- ---- the lists that are done with go

pub marked_same : (c : Content) (N N' : Identifier → Bool) → ((p : Identifier) → N' p ≡ N p) → AreMarked c N → AreMarked c N'
marked_same c N N' same marks = let alike : N' ≡ N = λ i p. same p i in rw alike marks

pub flat_marked : (c : Content) (es : List Entry) (K : Identifier → List Identifier) (N N' : Identifier → Bool) → ((p : Identifier) → N' p ≡ N p) → IsFlat c es K N → IsFlat c es K N'
flat_marked c es K N N' same flat = let alike : N' ≡ N = λ i p. same p i in rw alike flat

-- done is true of what is inserted, and of nothing that waits
pub flat_cleared : (c : Content) (es : List Entry) (K K' : Identifier → List Identifier) (N N' done : Identifier → Bool) → IsFlat c es K N
    → ((p : Identifier) → done p ≡ true → finite_map.contains_key c.inserted p ≡ true) → ((p : Identifier) → done p ≡ true → N p ≡ false)
    → ((p : Identifier) → done p ≡ false → K' p ≡ K p) → ((p : Identifier) → N' p ≡ N p) → IsFlat c es K' N'
flat_cleared c es K K' N N' done flat inserted gone same marks = record {
  listed = flat.listed;
  shown = flat.shown;
  children = record {
    exact = λ p low k. ap (list_any (is k)) (kept p low) ∙ flat.children.exact p low k;
    once = λ p low. subst (λ ks. IsDistinct is ks) (sym (kept p low)) (flat.children.once p low);
  };
  marks = marked_same c N N' marks flat.marks;
}
  where
    there : (p : Identifier) → finite_map.contains_key c.inserted p ≡ true → (x : Element) × (finite_map.get c.inserted p ≡ Some x)
    there p h = grind arith

    kept : (p : Identifier) → is_above c p ≡ false → K' p ≡ K p
    kept p low = grind (arith, there p, flat.marks.waits p, low_waits c p low)
