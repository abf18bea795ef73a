-- Elements that are placed in turn, the last one that is to be placed first: so at the end the entries are those of the order.
use Rattle.std.proofs.Common.{◌≡◌, ◌≤◌, ◌<◌, Bool, true, false, not, ◌&&◌, ◌||◌, ℕ, List, [], ◌∷◌, ◌++◌, length, filter, refl, sym, ap, ◌∙◌, subst, arith, true≢false, cond, inl, inr}
use Rattle.std.specs.Prelude.{Some, None, Ok, ◌⊎◌}
use Rattle.std.specs.List.{list_any, AllByRecursion, IsDistinct}
use Rattle.std.specs.FinMap as finite_map
use Rattle.std.specs.FinMap.{find}
use Rattle.std.specs.FinSet as finite_set
use Rattle.std.proofs.lemmas.Bool.{or_cases, or_left, or_right, or_from}
use Rattle.std.proofs.lemmas.Option.{same_Some, none-some}
use Rattle.std.proofs.lemmas.List.Folds.{list_any-append}
use Rattle.rga_ops.specs.Identifier.{Identifier, id_cmp, is_root}
use Rattle.rga_ops.specs.Operation.{checked}
use Rattle.rga_ops.specs.Content.{Element, element, Content, IsSound, IsWithin, join, single}
use Rattle.rga_ops.specs.RootPath.{is_complete, IsComplete}
use Rattle.rga_ops.specs.RootPath.IsComplete.{below_root, below_element}
use Rattle.rga_ops.specs.Order.{order}
use Rattle.rga_ops.specs.Placement.{put_by_skip_rule}
use Rattle.rga_ops.proofs.IdentifierLaws.{ids_total, is, is_itself, same_id, is_id-same, is_id-itself}
use Rattle.rga_ops.proofs.MemberLaws.{all_map, all_append, all_members}
use Rattle.rga_ops.proofs.PathLaws.{is_complete-iff, inserted_if_complete, key_of}
use Rattle.rga_ops.proofs.ContentLaws.{within_join, within_chain, join_least}
use Rattle.rga_ops.proofs.OperationLaws.{get-single}
use Rattle.rga_ops.proofs.OrderLaws.{order_list}
use Rattle.rga_ops.proofs.AnswerLaws.{well_formed_insertion}
use Rattle.rga_ops.proofs.GrowLaws.{complete_stays}
use Rattle.rga_ops.proofs.InsertionLaws.{IsNewLeaf, not_complete_before, is_complete-insertion, get-elsewhere, get-inserted, contains-insertion}
use Rattle.rga_ops.specs.declared.op.Op.TheVariants.{Insert}
use Rattle.rga_sequence.specs.declared.entry.Entry.{Entry}
use Rattle.rga_sequence.specs.Entries.{ids, has, put_entry}
use Rattle.rga_sequence.proofs.IdLaws.{ids_put}
use Rattle.rga_store.specs.Child.{is_child}
use Rattle.rga_store.proofs.StepLaws.{IsChild, child_found, sound_within}
use Rattle.rga_flat.specs.Flat.{is_above, IsEntryOf, IsFlat, entry_for}
use Rattle.rga_flat.specs.Placing.{IsClosed, IsReady, IsPlacing}
use Rattle.rga_flat.proofs.GrowthLaws.{order-finished, order-placing, childless}
use Rattle.std.proofs.lemmas.Map.Entries.{lookup-filter-keys}
use Rattle.std.specs.Map.{lookup}
use Rattle.rga_flat.proofs.EntryLaws.{either, has_ids, all_put}

-- ---- lists
all_front : (P : Identifier → Type 0) (xs ys : List Identifier) → AllByRecursion P (xs ++ ys) → AllByRecursion P xs
all_front P [] ys h = tt
all_front P (x ∷ xs) ys h = (h.0, all_front P xs ys h.1)

all_last : (P : Identifier → Type 0) (xs : List Identifier) (y : Identifier) → AllByRecursion P (xs ++ y ∷ []) → P y
all_last P [] y h = h.0
all_last P (x ∷ xs) y h = all_last P xs y h.1

pub left_member : (xs ys : List Identifier) (q : Identifier) → list_any (is q) xs ≡ true → list_any (is q) (xs ++ ys) ≡ true
left_member xs ys q m = list_any-append (is q) xs ys ∙ or_left (list_any (is q) xs) (list_any (is q) ys) m

right_member : (xs ys : List Identifier) (q : Identifier) → list_any (is q) ys ≡ true → list_any (is q) (xs ++ ys) ≡ true
right_member xs ys q m = list_any-append (is q) xs ys ∙ or_right (list_any (is q) xs) (list_any (is q) ys) m

pub last_member : (xs : List Identifier) (y q : Identifier) → list_any (is q) (xs ++ y ∷ []) ≡ true → (list_any (is q) xs ≡ true) ⊎ (q ≡ y)
last_member xs y q m = grind (arith, list_any-append (is q) xs (y ∷ []), same_id q y)

few : (p q : Identifier → Bool) → ((x : Identifier) → q x ≡ true → p x ≡ true) → (xs : List Identifier) → length (filter q xs) ≤ length (filter p xs)
few p q f [] = omega arith
few p q f (x ∷ xs) = grind (arith, few p q f xs)

fewer : (p q : Identifier → Bool) → ((x : Identifier) → q x ≡ true → p x ≡ true) → (k : Identifier) (xs : List Identifier) → list_any (is k) xs ≡ true → p k ≡ true → q k ≡ false → length (filter q xs) < length (filter p xs)
fewer p q f k [] m kept gone = absurd (true≢false (sym m))
fewer p q f k (x ∷ xs) m kept gone = grind (arith, few p q f xs, same_id k x, fewer p q f k xs)

-- those before the last are others, where each stands once
other_than_last : (xs : List Identifier) (y : Identifier) → IsDistinct is (xs ++ y ∷ []) → AllByRecursion (λ x. is x y ≡ false) xs
unfolding IsDistinct
other_than_last [] y h = tt
other_than_last (x ∷ xs) y h = (all_last (λ z. is x z ≡ false) xs y h.0, other_than_last xs y h.1)

distinct_front : (xs ys : List Identifier) → IsDistinct is (xs ++ ys) → IsDistinct is xs
unfolding IsDistinct
distinct_front [] ys h = tt
distinct_front (x ∷ xs) ys h = (all_front (λ z. is x z ≡ false) xs ys h.0, distinct_front xs ys h.1)

pub distinct_both : (xs ys : List Identifier) → IsDistinct is xs → IsDistinct is ys → AllByRecursion (λ x. AllByRecursion (λ y. is x y ≡ false) ys) xs → IsDistinct is (xs ++ ys)
unfolding IsDistinct
distinct_both [] ys a b h = b
distinct_both (x ∷ xs) ys a b h = (all_append (λ z. is x z ≡ false) xs ys a.0 h.0, distinct_both xs ys a.1 b h.1)

-- ---- the part that is placed

pub above_cases : (c : Content) (p : Identifier) → is_above c p ≡ true → (is_root p ≡ true) ⊎ (is_complete c p ≡ true)
above_cases c p h = or_cases (is_root p) (is_complete c p) h

pub of_root : (c : Content) (p : Identifier) → is_root p ≡ true → is_above c p ≡ true
of_root c p h = or_left (is_root p) (is_complete c p) h

pub of_complete : (c : Content) (p : Identifier) → is_complete c p ≡ true → is_above c p ≡ true
of_complete c p h = or_right (is_root p) (is_complete c p) h

-- what is not above is not complete
pub low_waits : (c : Content) (p : Identifier) → is_above c p ≡ false → is_complete c p ≡ false
low_waits c p h = either (is_complete c p) (λ t. absurd (true≢false (sym (of_complete c p t) ∙ h))) (λ f. f)

pub proper : (d : Content) → IsSound d → (k : Identifier) (x : Element) → finite_map.get d.inserted k ≡ Some x → is_root k ≡ false
proper d sound k x g = (well_formed_insertion k x.parent x.ch (sound (Insert k x.parent x.ch) g)).0

single_within : (d : Content) (s : Identifier) (x : Element) → finite_map.get d.inserted s ≡ Some x → IsWithin (single (Insert s x.parent x.ch)) d
single_within d s x g = record {
  inserted = λ k y h. grind (arith, get-single s x.parent x.ch k, same_id k s);
  deleted = λ k h. absurd (true≢false (sym h ∙ finite_set.contains-empty id_cmp k));
}

-- how many inserted elements are not placed
abbrev pub left : Content → List Entry → ℕ
left d es = length (filter (λ k. not (list_any (is k) (ids es))) (finite_map.keys d.inserted))

pub listed_in : (c : Content) (k : Identifier) (xs : List Identifier) → xs ≡ order c → list_any (is k) xs ≡ is_complete c k
listed_in c k xs e = ap (list_any (is k)) e ∙ (order_list c).elements k

pub has_listed : (c : Content) (k : Identifier) (es : List Entry) → ids es ≡ order c → has k es ≡ is_complete c k
has_listed c k es e = has_ids k es ∙ listed_in c k (ids es) e

module _ (d : Content) (K : Identifier → List Identifier) (N N' : Identifier → Bool) where
  module _ (es : List Entry) (todo : List Identifier) (s : Identifier) (walk : IsPlacing d K N es (todo ++ s ∷ [])) (gone : N' s ≡ false) (others_kept : (k : Identifier) → is s k ≡ false → N' k ≡ N k) where
    abbrev p : Content
    p = walk.part

    abbrev it : IsReady d p s
    it = all_last (IsReady d p) todo s walk.ready

    abbrev x : Element
    x = it.element

    abbrev q : Content
    q = join p (single (Insert s x.parent x.ch))

    abbrev put : List Entry
    put = put_entry x.parent (entry_for d s x) es

    well_formed : checked (Insert s x.parent x.ch) ≡ Ok tt
    well_formed = walk.sound (Insert s x.parent x.ch) it.found

    other : is_root s ≡ false
    other = (well_formed_insertion s x.parent x.ch well_formed).0

    leaf : IsNewLeaf p s
    leaf = record {
      element = other;
      absent = it.absent;
      childless = λ k y g. grind (arith, childless p s x.parent x.ch walk.closed well_formed it.absent k y g, well_formed, same_id y.parent s);
    }

    not_yet : is_complete p s ≡ false
    not_yet = not_complete_before p s leaf

    not_above : is_above p s ≡ false
    not_above = or_from (is_root s) (is_complete p s) other not_yet

    grown : IsWithin p q
    grown = within_join p (single (Insert s x.parent x.ch))

    stays : (k : Identifier) → is_complete p k ≡ true → is_complete q k ≡ true
    stays k h = complete_stays p q grown k h

    stays_above : (k : Identifier) → is_above p k ≡ true → is_above q k ≡ true
    stays_above k h = grind (arith, above_cases p k h, of_root q k, of_complete q k, stays k)

    complete_now : (k : Identifier) → is_complete q k ≡ ((is k s && is_above p x.parent) || is_complete p k)
    complete_now k = is_complete-insertion p s x.parent x.ch leaf k

    it_is : is_complete q s ≡ true
    it_is = complete_now s ∙ ap (λ b. (b && is_above p x.parent) || is_complete p s) (is_itself s) ∙ ap (λ b. b || is_complete p s) it.above

    back : (k : Identifier) → is_complete q k ≡ true → (k ≡ s) ⊎ (is_complete p k ≡ true)
    back k h = either (is k s) (λ t. inl (same_id k s t)) (λ f. inr (sym (ap (λ b. (b && is_above p x.parent) || is_complete p k) f) ∙ sym (complete_now k) ∙ h))

    elsewhere : (k : Identifier) → is k s ≡ false → finite_map.get q.inserted k ≡ finite_map.get p.inserted k
    elsewhere k f = get-elsewhere p s x.parent x.ch k f

    q_within : IsWithin q d
    q_within = join_least p (single (Insert s x.parent x.ch)) d walk.within (single_within d s x it.found)

    q_closed : IsClosed q
    q_closed = λ k y g. either (is k s)
        (λ t. ap (is_complete q) (same_id k s t) ∙ it_is)
        (λ f. stays k (walk.closed k y (sym (elsewhere k f) ∙ g)))

    child_in : (k : Identifier) → list_any (is k) (K s) ≡ true → IsChild d s k
    child_in k m = child_found d s k (sym (walk.children.exact s not_above k) ∙ m)

    in_list : (k : Identifier) (y : Element) → finite_map.get d.inserted k ≡ Some y → y.parent ≡ s → list_any (is k) (K s) ≡ true
    in_list k y g e = grind (arith, walk.children.exact s not_above k, not_above, is_id-itself s)

    others : AllByRecursion (λ t. is t s ≡ false) todo
    others = other_than_last todo s walk.distinct

    ready_todo : AllByRecursion (IsReady d p) todo
    ready_todo = all_front (IsReady d p) todo (s ∷ []) walk.ready

    -- no child of it was there, or was to come
    child_other : (k : Identifier) → IsChild d s k → is k s ≡ false
    child_other k ch = either (is k s)
        (λ t.
        let one : x ≡ ch.element = same_Some x ch.element (sym it.found ∙ ap (finite_map.get d.inserted) (sym (same_id k s t)) ∙ ch.found) in
        absurd (true≢false (sym it.above ∙ ap (is_above p) (ap (λ (e : Element). e.parent) one ∙ ch.parent) ∙ not_above)))
        (λ f. f)

    child_absent : (k : Identifier) → IsChild d s k → finite_map.get p.inserted k ≡ None
    child_absent k ch = grind (arith, walk.within.inserted k, is_itself s, leaf.childless k)

    child_ready : (k : Identifier) → IsChild d s k → IsReady d q k
    child_ready k ch = record {
      element = ch.element;
      found = ch.found;
      absent = elsewhere k (child_other k ch) ∙ child_absent k ch;
      above = ap (is_above q) ch.parent ∙ of_complete q s it_is;
    }

    children_ready : AllByRecursion (IsReady d q) (K s)
    children_ready = all_members (IsReady d q) (K s) (λ k m. child_ready k (child_in k m))

    still_ready : (ts : List Identifier) → AllByRecursion (IsReady d p) ts → AllByRecursion (λ t. is t s ≡ false) ts → AllByRecursion (IsReady d q) ts
    still_ready [] a b = tt
    still_ready (t ∷ ts) a b = (
      record {
        element = (a.0).element;
        found = (a.0).found;
        absent = elsewhere t b.0 ∙ (a.0).absent;
        above = stays_above (a.0).element.parent (a.0).above;
      },
      still_ready ts a.1 b.1,
    )

    -- what was to come is no child of it
    no_child : (t k : Identifier) → IsReady d p t → IsChild d s k → is t k ≡ false
    no_child t k r ch = grind (arith, same_id t k, not_above)

    apart : AllByRecursion (λ t. AllByRecursion (λ k. is t k ≡ false) (K s)) todo
    apart = all_map (IsReady d p) (λ t. AllByRecursion (λ k. is t k ≡ false) (K s)) (λ t r. all_members (λ k. is t k ≡ false) (K s) (λ k m. no_child t k r (child_in k m))) todo ready_todo

    covered_now : (k : Identifier) (y : Element) → finite_map.get d.inserted k ≡ Some y → is_above q y.parent ≡ true → (is_complete q k ≡ true) ⊎ (list_any (is k) (todo ++ K s) ≡ true)
    covered_now k y g h = elim (above_cases q y.parent h) [
      | inl r ↦ before (of_root p y.parent r)
      | inr c ↦ elim (back y.parent c) [
        | inl e ↦ inr (right_member todo (K s) k (in_list k y g e))
        | inr was ↦ before (of_complete p y.parent was)
      ]
    ]
      where
        before : is_above p y.parent ≡ true → (is_complete q k ≡ true) ⊎ (list_any (is k) (todo ++ K s) ≡ true)
        before a = grind (arith, walk.covered k y g a, stays k, last_member todo s k, left_member todo (K s) k, it_is)

    lower : (k : Identifier) → is_above q k ≡ false → is_above p k ≡ false
    lower k h = either (is_above p k) (λ t. absurd (true≢false (sym (stays_above k t) ∙ h))) (λ f. f)

    other_than : (k : Identifier) → is_complete q k ≡ false → is s k ≡ false
    other_than k h = either (is s k) (λ t. absurd (true≢false (sym it_is ∙ ap (is_complete q) (same_id s k t) ∙ h))) (λ f. f)

    waits_now : (k : Identifier) (y : Element) → finite_map.get d.inserted k ≡ Some y → is_complete d k ≡ false → N' k ≡ true
    waits_now k y g h = grind (arith, other_than k, complete_stays q d q_within k, q_within, walk.waits k y g h)

    complete_then : (k : Identifier) → is_complete q k ≡ true → N' k ≡ false
    complete_then k h = grind (arith, back k h, same_id s k, not_yet, walk.complete k)

    stepped : IsPlacing d K N' put (todo ++ K s)
    stepped = record {
      part = q;
      sound = walk.sound;
      within = q_within;
      closed = q_closed;
      listed = ids_put x.parent (entry_for d s x) es ∙ ap (put_by_skip_rule x.parent s) walk.listed ∙ sym (order-placing p s x.parent x.ch (sound_within p d walk.within walk.sound) walk.closed well_formed it.absent);
      shown = all_put (IsEntryOf d) x.parent (entry_for d s x) es (record { element = x; found = it.found; character = refl; deleted = refl }) walk.shown;
      children = record { exact = λ a h. walk.children.exact a (lower a h); once = λ a h. walk.children.once a (lower a h) };
      waits = waits_now;
      complete = complete_then;
      distinct = distinct_both todo (K s) (distinct_front todo (s ∷ []) walk.distinct) (walk.children.once s not_above) apart;
      ready = all_append (IsReady d q) todo (K s) (still_ready todo ready_todo others) children_ready;
      covered = covered_now;
    }

    smaller : left d put < left d es
    unfolding stepped
    smaller = fewer (λ k. not (list_any (is k) (ids es))) (λ k. not (list_any (is k) (ids put)))
        (λ k h. ap not (listed_in p k (ids es) walk.listed) ∙ was k (sym (ap not (listed_in q k (ids put) stepped.listed)) ∙ h))
        s (finite_map.keys d.inserted) (key_of d s x it.found)
        (ap not (listed_in p s (ids es) walk.listed ∙ not_yet))
        (ap not (listed_in q s (ids put) stepped.listed ∙ it_is))
      where
        was : (k : Identifier) → not (is_complete q k) ≡ true → not (is_complete p k) ≡ true
        was k h = either (is_complete p k) (λ c. absurd (true≢false (sym h ∙ ap not (stays k c)))) (λ f. ap not f)

  -- ---- for the loop

  module _ (es : List Entry) (old todo : List Identifier) (s : Identifier) (popped : old ≡ todo ++ s ∷ []) (walk : IsPlacing d K N es old) (gone : N' s ≡ false) (others_kept : (k : Identifier) → is s k ≡ false → N' k ≡ N k) where
    abbrev now : IsPlacing d K N es (todo ++ s ∷ [])
    now = subst (λ xs. IsPlacing d K N es xs) popped walk

    abbrev own : IsReady d now.part s
    own = all_last (IsReady d now.part) todo s now.ready

    element_is : (y : Element) → finite_map.get d.inserted s ≡ Some y → own.element ≡ y
    element_is y h = same_Some _ _ (sym own.found ∙ h)

    pub place_step : (new_es : List Entry) (new : List Identifier) (y : Element) → finite_map.get d.inserted s ≡ Some y → new ≡ todo ++ K s → new_es ≡ put_entry y.parent (entry_for d s y) es → IsPlacing d K N' new_es new
    place_step new_es new y h pushed e =
        subst (λ xs. IsPlacing d K N' xs new) (sym (e ∙ ap (λ (z : Element). put_entry z.parent (entry_for d s z) es) (sym (element_is y h))))
        (subst (λ xs. IsPlacing d K N' (put_entry own.element.parent (entry_for d s own.element) es) xs) (sym pushed) (stepped es todo s now gone others_kept))

    pub place_smaller : (new_es : List Entry) (y : Element) → finite_map.get d.inserted s ≡ Some y → new_es ≡ put_entry y.parent (entry_for d s y) es → left d new_es < left d es
    place_smaller new_es y h e = subst (λ xs. left d xs < left d es) (sym (e ∙ ap (λ (z : Element). put_entry z.parent (entry_for d s z) es) (sym (element_is y h)))) (smaller es todo s now gone others_kept)

module _ (d : Content) (K : Identifier → List Identifier) (N : Identifier → Bool) where
  module _ (es : List Entry) (old todo : List Identifier) (s : Identifier) (popped : old ≡ todo ++ s ∷ []) (walk : IsPlacing d K N es old) where
    abbrev now_ready : IsReady d walk.part s
    now_ready = all_last (IsReady d walk.part) todo s (subst (λ xs. AllByRecursion (IsReady d walk.part) xs) popped walk.ready)

    pub place_named : (y : Element) × (finite_map.get d.inserted s ≡ Some y)
    place_named = (now_ready.element, now_ready.found)

    pub place_absent : has s es ≡ false
    place_absent = has_listed walk.part s es walk.listed ∙ either (is_complete walk.part s)
        (λ t. absurd (none-some _ (sym now_ready.absent ∙ (inserted_if_complete walk.part s t).1)))
        (λ f. f)

    pub place_parent : (y : Element) → finite_map.get d.inserted s ≡ Some y → (is_root y.parent || has y.parent es) ≡ true
    place_parent y h = grind (arith, has_listed walk.part now_ready.element.parent es walk.listed)

  -- what is complete is in the part, where nothing is to come
  module _ (es : List Entry) (walk : IsPlacing d K N es []) where
    here : (k : Identifier) (y : Element) → finite_map.get d.inserted k ≡ Some y → is_above walk.part y.parent ≡ true → is_complete walk.part k ≡ true
    here k y g a = grind (arith, walk.covered k y g a)

    fin : {k : Identifier} → IsComplete d k → is_complete walk.part k ≡ true
    fin {k} (below_root y proper_id g root) = here k y g (of_root walk.part y.parent root)
    fin {k} (below_element y proper_id g above) = here k y g (of_complete walk.part y.parent (fin above))

    whole : (k : Identifier) → is_complete d k ≡ true → is_complete walk.part k ≡ true
    whole k h = fin ((is_complete-iff d k).0 h)

    still : (k : Identifier) → is_complete walk.part k ≡ true → is_complete d k ≡ true
    still k h = complete_stays walk.part d walk.within k h

    part_low : (k : Identifier) → is_above d k ≡ false → is_above walk.part k ≡ false
    part_low k h = grind (arith, above_cases walk.part k, of_root d k, of_complete d k, still k)

    pub placed_flat : IsFlat d es K N
    placed_flat = record {
      listed = walk.listed ∙ order-finished walk.part d walk.within whole;
      shown = walk.shown;
      children = record {
        exact = λ a h k. walk.children.exact a (part_low a h) k;
        once = λ a h. walk.children.once a (part_low a h);
      };
      marks = record { waits = walk.waits; complete = λ k h. walk.complete k (whole k h) };
    }

-- ---- the beginning: of what was there, the elements that are complete

-- the elements that are complete
abbrev settled : Content → Content
settled c = record {
  inserted = finite_map.from_entries (filter (λ e. is_complete c e.0) (finite_map.entries c.inserted));
  deleted = c.deleted;
}

find_is : (k : Identifier) (es : List (Identifier × Element)) → find id_cmp k es ≡ lookup (is k) es
find_is k [] = refl
find_is k (e ∷ es) = ap (cond (is k e.0) (Some e.1)) (find_is k es)

find_kept : (f : Identifier → Bool) (k : Identifier) (es : List (Identifier × Element)) → find id_cmp k (filter (λ e. f e.0) es) ≡ cond (f k) (find id_cmp k es) None
find_kept f k es = grind (arith, find_is, lookup-filter-keys, same_id)

module _ (c : Content) (sound : IsSound c) where
  get_settled : (k : Identifier) → finite_map.get (settled c).inserted k ≡ cond (is_complete c k) (finite_map.get c.inserted k) None
  get_settled k =
      finite_map.get-from_entries ids_total (filter (λ e. is_complete c e.0) (finite_map.entries c.inserted)) k
      ∙ find_kept (is_complete c) k (finite_map.entries c.inserted)
      ∙ ap (λ o. cond (is_complete c k) o None) (sym (finite_map.get-entries c.inserted k))

  kept_of : (k : Identifier) (y : Element) → finite_map.get (settled c).inserted k ≡ Some y → (is_complete c k ≡ true) × (finite_map.get c.inserted k ≡ Some y)
  kept_of k y g = grind (arith, get_settled k)

  settled_within : IsWithin (settled c) c
  settled_within = record { inserted = λ k y g. (kept_of k y g).1; deleted = λ k h. h }

  has_settled : (k : Identifier) (y : Element) → IsComplete c k → finite_map.get c.inserted k ≡ Some y → finite_map.get (settled c).inserted k ≡ Some y
  has_settled k y h g = get_settled k ∙ ap (λ b. cond b (finite_map.get c.inserted k) None) ((is_complete-iff c k).1 h) ∙ g

  still_settled : {k : Identifier} → IsComplete c k → IsComplete (settled c) k
  still_settled {k} (below_root y o g root) = below_root y o (has_settled k y (below_root y o g root) g) root
  still_settled {k} (below_element y o g above) = below_element y o (has_settled k y (below_element y o g above) g) (still_settled above)

  complete_settled : (k : Identifier) → is_complete c k ≡ true → is_complete (settled c) k ≡ true
  complete_settled k h = (is_complete-iff (settled c) k).1 (still_settled ((is_complete-iff c k).0 h))

  pub complete_of : (k : Identifier) (y : Element) → finite_map.get c.inserted k ≡ Some y → is_above c y.parent ≡ true → is_complete c k ≡ true
  complete_of k y g h = (is_complete-iff c k).1 (elim (above_cases c y.parent h) [
    | inl r ↦ below_root y (proper c sound k y g) g r
    | inr a ↦ below_element y (proper c sound k y g) g ((is_complete-iff c y.parent).0 a)
  ])

  module _ (id parent : Identifier) (ch : ℕ) (absent : finite_map.get c.inserted id ≡ None) (above : is_above c parent ≡ true) where
    abbrev grown_by : Content
    grown_by = join c (single (Insert id parent ch))

    above_settled : (p : Identifier) → is_above c p ≡ true → is_above (settled c) p ≡ true
    above_settled p h = grind (arith, above_cases c p h, of_root (settled c) p, of_complete (settled c) p, complete_settled p)

    above_before : (p : Identifier) → is_above (settled c) p ≡ true → is_above c p ≡ true
    above_before p h = grind (arith, above_cases (settled c) p h, of_root c p, of_complete c p, complete_stays (settled c) c settled_within p, settled_within)

    low_before : (p : Identifier) → is_above (settled c) p ≡ false → is_above c p ≡ false
    low_before p h = either (is_above c p) (λ t. absurd (true≢false (sym (above_settled p t) ∙ h))) (λ f. f)

    absent_settled : finite_map.get (settled c).inserted id ≡ None
    absent_settled = grind (arith, kept_of id)

    now_there : finite_map.get grown_by.inserted id ≡ Some (element parent ch)
    now_there = get-inserted c id parent ch absent

    -- no child more where it is not complete
    same_children : (p : Identifier) → is_above c p ≡ false → (k : Identifier) → is_child c p k ≡ is_child grown_by p k
    same_children p low k = grind (arith, same_id k id, now_there, same_id p parent, is_id-same parent p, get-elsewhere c id parent ch k)

    complete_later : (k : Identifier) → is_complete grown_by k ≡ false → is_complete c k ≡ false
    complete_later k h = grind (arith, complete_stays c grown_by (within_join c (single (Insert id parent ch))) k, within_join c (single (Insert id parent ch)))

    module _ (sound_now : IsSound grown_by) (es : List Entry) (K : Identifier → List Identifier) (N : Identifier → Bool) (flat : IsFlat c es K N) where
      own_complete : is_complete grown_by id ≡ true
      own_complete = (is_complete-iff grown_by id).1 (elim (above_cases c parent above) [
        | inl r ↦ below_root (element parent ch) (proper grown_by sound_now id (element parent ch) now_there) now_there r
        | inr a ↦ below_element (element parent ch) (proper grown_by sound_now id (element parent ch) now_there) now_there
            ((is_complete-iff grown_by parent).0 (complete_stays c grown_by (within_join c (single (Insert id parent ch))) parent a))
      ])

      -- entries of a content are entries of it with an insertion more
      shown_now : (e : Entry) → IsEntryOf c e → IsEntryOf grown_by e
      shown_now e w = record {
        element = w.element;
        found = (within_join c (single (Insert id parent ch))).inserted e.id w.element w.found;
        character = w.character;
        deleted = w.deleted ∙ sym (contains-insertion c id parent ch e.id);
      }

      pub place_start : IsPlacing grown_by K N es (id ∷ [])
      unfolding IsDistinct
      place_start = record {
        part = settled c;
        sound = sound_now;
        within = within_chain (settled c) c grown_by settled_within (within_join c (single (Insert id parent ch)));
        closed = λ k y g. complete_settled k (kept_of k y g).0;
        listed = flat.listed ∙ sym (order-finished (settled c) c settled_within (λ k h. complete_settled k h));
        shown = all_map (IsEntryOf c) (IsEntryOf grown_by) shown_now es flat.shown;
        children = record {
          exact = λ p h k. flat.children.exact p (low_before p h) k ∙ same_children p (low_before p h) k;
          once = λ p h. flat.children.once p (low_before p h);
        };
        waits = λ k y g h. grind (arith, own_complete, same_id k id, flat.marks.waits k y, get-elsewhere c id parent ch k, complete_later k h);
        complete = λ k h. flat.marks.complete k (complete_stays (settled c) c settled_within k h);
        distinct = (tt, tt);
        ready = grind (arith, now_there, absent_settled, above_settled parent above);
        covered = λ k y g h. grind (arith, get-elsewhere c id parent ch k, complete_settled k, complete_of k y, above_before y.parent h);
      }

-- an element whose parent is neither the root nor complete waits, and so do those that wait for it
module _ (c : Content) (sound : IsSound c) (id parent : Identifier) (ch : ℕ) (absent : finite_map.get c.inserted id ≡ None) (low : is_above c parent ≡ false) where
  abbrev more : Content
  more = join c (single (Insert id parent ch))

  was_there : (k : Identifier) (y : Element) → finite_map.get more.inserted k ≡ Some y → is_above c y.parent ≡ true → is_complete c k ≡ true
  was_there k y g a = grind (arith, get-inserted c id parent ch absent, same_id k id, complete_of c sound k y, get-elsewhere c id parent ch k)

  was_complete : {k : Identifier} → IsComplete more k → is_complete c k ≡ true
  was_complete {k} (below_root y o g root) = was_there k y g (of_root c y.parent root)
  was_complete {k} (below_element y o g above) = was_there k y g (of_complete c y.parent (was_complete above))

  pub as_complete : (k : Identifier) → is_complete more k ≡ true → is_complete c k ≡ true
  as_complete k h = was_complete ((is_complete-iff more k).0 h)

  pub order_stays : order c ≡ order more
  order_stays = order-finished c more (within_join c (single (Insert id parent ch))) as_complete
