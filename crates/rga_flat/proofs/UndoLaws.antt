-- The way back from a content to a base.
use Rattle.std.proofs.Common.{◌≡◌, is_some, Bool, true, false, not, ◌&&◌, ℕ, List, [], ◌∷◌, ◌++◌, filter, refl, sym, ap, ◌∙◌, subst, cond, arith}
use Rattle.std.specs.Prelude.{Option, Some, None}
use Rattle.std.specs.Option.{option_map_or}
use Rattle.std.specs.List.{list_any, AllByRecursion, IsDistinct}
use Rattle.std.specs.FinMap as finite_map
use Rattle.std.specs.FinSet as finite_set
use Rattle.std.proofs.lemmas.List.Folds.{list_any-append}
use Rattle.rga_ops.specs.Identifier.{Identifier, is_id}
use Rattle.rga_ops.specs.Content.{Element, element, Content, IsWithin}
use Rattle.rga_ops.specs.RootPath.{is_complete}
use Rattle.rga_ops.specs.Order.{order}
use Rattle.rga_ops.specs.Placement as placement
use Rattle.rga_ops.proofs.IdentifierLaws.{ids_total, is, is_itself, is_swap, same_id, is_id-same}
use Rattle.rga_ops.proofs.MemberLaws.{all_map, all_filter, filter_alike, distinct_filter}
use Rattle.rga_ops.proofs.PathLaws.{inserted_if_complete}
use Rattle.rga_ops.proofs.GrowLaws.{order_within}
use Rattle.rga_ops.proofs.VisibleLaws.{filtered, order_complete}
use Rattle.rga_sequence.specs.declared.entry.Entry.{Entry}
use Rattle.rga_sequence.specs.Entries.{ids, without_entry, as_marked, mark_entry}
use Rattle.rga_sequence.proofs.IdLaws.{ids_without, ids_marked}
use Rattle.rga_store.specs.Without.{without_insertion, without_deletion}
use Rattle.rga_store.specs.Child.{is_child}
use Rattle.rga_flat.specs.Flat.{is_above, IsEntryOf, IsFlat}
use Rattle.rga_flat.specs.Based.{IsBased}
use Rattle.rga_flat.specs.Undo.{IsGoingBack}
use Rattle.rga_flat.specs.Waiting.{Waiting, under, has_list}
use Rattle.rga_flat.proofs.FlatLaws.{marked_same}

-- ---- lists

filter_both : (p q r : Identifier → Bool) → ((x : Identifier) → r x ≡ (q x && p x)) → (xs : List Identifier) → filter p (filter q xs) ≡ filter r xs
filter_both p q r same [] = refl
filter_both p q r same (x ∷ xs) = grind (arith, filter_both p q r same xs)

ids_filter : (p : Identifier → Bool) (es : List Entry) → ids (filter (λ e. p e.id) es) ≡ filter p (ids es)
ids_filter p [] = refl
ids_filter p (e ∷ es) = grind (arith, ids_filter p es)

all_ids : (P : Identifier → Type 0) (es : List Entry) → AllByRecursion P (ids es) → AllByRecursion (λ e. P e.id) es
all_ids P [] h = tt
all_ids P (e ∷ es) h = (h.0, all_ids P es h.1)

all_both : (P Q R : Entry → Type 0) → ((e : Entry) → P e → Q e → R e) → (es : List Entry) → AllByRecursion P es → AllByRecursion Q es → AllByRecursion R es
all_both P Q R f [] a b = tt
all_both P Q R f (e ∷ es) a b = (f e a.0 b.0, all_both P Q R f es a.1 b.1)

same_truth : (a b : Bool) → (a ≡ true → b ≡ true) → (b ≡ true → a ≡ true) → a ≡ b
same_truth a b f g = grind arith

-- none is out at first, and then one more
pub out_none : (es : List Entry) → es ≡ filter (λ e. not (list_any (is e.id) [])) es
out_none [] = refl
out_none (e ∷ es) = ap (λ r. e ∷ r) (out_none es)

pub out_more : (ks : List Identifier) (k : Identifier) (es : List Entry) → without_entry k (filter (λ e. not (list_any (is e.id) ks)) es) ≡ filter (λ e. not (list_any (is e.id) (ks ++ k ∷ []))) es
out_more ks k [] = refl
out_more ks k (e ∷ es) = grind (arith, out_more ks k es, list_any-append (is e.id) ks (k ∷ []), is_swap e.id k, is_id-same e.id k)

-- ---- the first step: what has a list that was done with goes

module _ (top base : Content) (es : List Entry) (w : Waiting) (N done : Identifier → Bool) (flat : IsFlat top es (under w) N) (based : IsBased base top (under w) (has_list w)) where
  inserted_there : (k : Identifier) → is_complete top k ≡ true → finite_map.contains_key top.inserted k ≡ true
  inserted_there k h = ap is_some (inserted_if_complete top k h).1

  pub going_start : IsGoingBack top base top (filter (λ e. not (done e.id)) es) w done
  going_start = record {
    listed = ids_filter (λ k. not (done k)) es ∙ ap (filter (λ k. not (done k))) flat.listed
        ∙ filter_alike (λ k. not (done k)) (λ k. finite_map.contains_key top.inserted k && not (done k)) (order top)
        (all_map (λ k. is_complete top k ≡ true) _ (λ k h. sym (ap (λ b. b && not (done k)) (inserted_there k h))) (order top) (order_complete top));
    shown = all_filter (IsEntryOf top) (λ e. not (done e.id)) es flat.shown;
    based = based;
  }

-- ---- an operation goes

module _ (top base c : Content) (es : List Entry) (w : Waiting) (done : Identifier → Bool) (going : IsGoingBack top base c es w done) where
  abbrev K : Identifier → List Identifier
  K = under w

  module _ (id parent : Identifier) (ch : ℕ) (held : finite_map.get c.inserted id ≡ Some (element parent ch)) (within : IsWithin base (without_insertion id c)) (w' : Waiting)
      (lists : (p : Identifier) → under w' p ≡ cond (is parent p) (placement.without id (K p)) (K p)) (marks : (p : Identifier) → has_list w' p ≡ has_list w p) where
    abbrev K' : Identifier → List Identifier
    K' = under w'

    left_at : (k : Identifier) → finite_map.get (without_insertion id c).inserted k ≡ cond (is k id) None (finite_map.get c.inserted k)
    left_at k = finite_map.get-remove ids_total c.inserted id k

    left_key : (k : Identifier) → (finite_map.contains_key (without_insertion id c).inserted k && not (done k)) ≡ ((finite_map.contains_key c.inserted k && not (done k)) && not (is_id k id))
    left_key k = grind (arith, left_at k, is_swap k id, is_id-same k id)

    not_based : (p : Identifier) → is_child base p id ≡ false
    not_based p = grind (arith, left_at id, is_itself id, within.inserted id)

    other_child : (p k : Identifier) → is k id ≡ false → is_child (without_insertion id c) p k ≡ is_child c p k
    other_child p k f = ap (λ (o : Option Element). option_map_or (λ x. is_id x.parent p) o false) (left_at k ∙ ap (λ b. cond b None (finite_map.get c.inserted k)) f)

    own_child : (p : Identifier) → is_child c p id ≡ is_id parent p
    own_child p = ap (λ (o : Option Element). option_map_or (λ x. is_id x.parent p) o false) held

    members : (p k : Identifier) → list_any (is k) (K' p) ≡ (list_any (is k) (K p) && not (is parent p && is_id k id))
    members p k = grind (arith, filtered)

    old_left : (p : Identifier) → is_above base p ≡ false → (k : Identifier) → is_child base p k ≡ true → list_any (is k) (K' p) ≡ true
    old_left p low k h = grind (arith, same_id k id, is_swap k id, is_id-same k id, not_based p, members p k, going.based.old p low k h)

    now_left : (p : Identifier) → is_above base p ≡ false → (k : Identifier) → list_any (is k) (K' p) ≡ true → is_child (without_insertion id c) p k ≡ true
    now_left p low k h =
        grind (arith, members p k, going.based.now p low k, own_child p, same_id k id, is_swap parent p, is_id-same parent p, is_id-same k id, is_swap id k, other_child p k)

    pub going_insertion : IsGoingBack top base (without_insertion id c) (without_entry id es) w' done
    going_insertion = record {
      listed = grind (arith, ids_without id es, filter_both, left_key);
      shown = all_filter (IsEntryOf (record { inserted = top.inserted; deleted = c.deleted })) (λ e. not (is_id e.id id)) es going.shown;
      based = record {
        within = within;
        old = old_left;
        now = now_left;
        once = λ p low. subst (λ ks. IsDistinct is ks) (sym (lists p)) (elim (is parent p) as (λ b. IsDistinct is (cond b (placement.without id (K p)) (K p))) [
          | true ↦ distinct_filter (λ x. not (is_id x id)) (K p) (going.based.once p low)
          | false ↦ going.based.once p low
        ]);
        marks = marked_same base (has_list w) (has_list w') marks going.based.marks;
      };
    }

  module _ (id : Identifier) (within : IsWithin base (without_deletion id c)) (w' : Waiting)
      (lists : (p : Identifier) → under w' p ≡ K p) (marks : (p : Identifier) → has_list w' p ≡ has_list w p) where
    abbrev mixed : Content
    mixed = record { inserted = top.inserted; deleted = c.deleted }

    abbrev less_mixed : Content
    less_mixed = record { inserted = top.inserted; deleted = (without_deletion id c).deleted }

    left_mark : (k : Identifier) → finite_set.contains (without_deletion id c).deleted k ≡ (not (is k id) && finite_set.contains c.deleted k)
    left_mark k = finite_set.contains-remove ids_total c.deleted id k

    unmarked : (e : Entry) → IsEntryOf mixed e → is_id e.id id ≡ true → IsEntryOf less_mixed (as_marked false e)
    unmarked e w t = record {
      element = w.element;
      found = w.found;
      character = w.character;
      deleted = sym (left_mark e.id ∙ ap (λ b. not b && finite_set.contains c.deleted e.id) (is_swap e.id id ∙ sym (is_id-same e.id id) ∙ t));
    }

    others : (e : Entry) → IsEntryOf mixed e → is_id e.id id ≡ false → IsEntryOf less_mixed e
    others e w f = record {
      element = w.element;
      found = w.found;
      character = w.character;
      deleted = w.deleted ∙ sym (left_mark e.id ∙ ap (λ b. not b && finite_set.contains c.deleted e.id) (is_swap e.id id ∙ sym (is_id-same e.id id) ∙ f));
    }

    shown_left : (xs : List Entry) → AllByRecursion (IsEntryOf mixed) xs → AllByRecursion (IsEntryOf less_mixed) (mark_entry false id xs)
    shown_left [] h = tt
    shown_left (e ∷ xs) h = grind (arith, unmarked e h.0, others e h.0, shown_left xs h.1)

    pub going_deletion : IsGoingBack top base (without_deletion id c) (mark_entry false id es) w' done
    going_deletion =
        let alike : (under w', has_list w') ≡ (K, has_list w) = λ i. ((λ p. lists p i), (λ p. marks p i)) in
        record {
          listed = ids_marked false id es ∙ going.listed;
          shown = shown_left es going.shown;
          based = subst (λ (f : (Identifier → List Identifier) × (Identifier → Bool)). IsBased base (without_deletion id c) f.0 f.1) (sym alike)
              (record { within = within; old = going.based.old; now = going.based.now; once = going.based.once; marks = going.based.marks });
        }

-- ---- there

module _ (top base : Content) (es : List Entry) (w : Waiting) (done : Identifier → Bool) (going : IsGoingBack top base base es w done) (within : IsWithin base top)
    (free : (k : Identifier) → is_complete base k ≡ true → done k ≡ false) (settled : (k : Identifier) → is_complete top k ≡ true → finite_map.contains_key base.inserted k ≡ true → done k ≡ false → is_complete base k ≡ true) where
  kept : (k : Identifier) → is_complete top k ≡ true → (finite_map.contains_key base.inserted k && not (done k)) ≡ is_complete base k
  kept k h = grind (arith, same_truth (finite_map.contains_key base.inserted k && not (done k)) (is_complete base k), inserted_if_complete base k)

  listed_there : ids es ≡ order base
  listed_there = grind (arith, filter_alike, all_map, kept, order_complete top, order_within base top within)

  shown_there : (e : Entry) → IsEntryOf (record { inserted = top.inserted; deleted = base.deleted }) e → is_complete base e.id ≡ true → IsEntryOf base e
  shown_there e w h = grind (arith, inserted_if_complete base e.id h, within.inserted e.id)

  pub going_end : IsFlat base es (under w) (has_list w)
  going_end = record {
    listed = listed_there;
    shown = all_both (IsEntryOf (record { inserted = top.inserted; deleted = base.deleted })) (λ e. is_complete base e.id ≡ true) (IsEntryOf base) shown_there es going.shown
        (all_ids (λ k. is_complete base k ≡ true) es (subst (λ xs. AllByRecursion (λ k. is_complete base k ≡ true) xs) (sym listed_there) (order_complete base)));
    children = record {
      exact = λ p low k. same_truth (list_any (is k) (under w p)) (is_child base p k) (going.based.now p low k) (going.based.old p low k);
      once = going.based.once;
    };
    marks = going.based.marks;
  }
