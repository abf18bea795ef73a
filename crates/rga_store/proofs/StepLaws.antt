-- What a new operation changes in a content: which operations are well-formed, and how many are known. And the element of a child.
use Rattle.rga_store.proofs.Prelude.{◌≡◌, ℕ, ◌+◌, ◌≤◌, Bool, true, false, cond, ◌||◌, List, [], ◌∷◌, length, is_some, refl, sym, ap, ◌∙◌, subst, arith, true≢false, inl, inr, add-one, Option, Some, None, Ok, ◌≢◌, ◌⊎◌, max, option_map_or, or-false, length-map, Identifier, id_cmp, is_id, id_of, Element, element, Content, join, single, known_ids, IsSound, IsWithin, answer, ids_total, ids_exact, is, is_id-is, contains-join, contains-single, get-insertion, get-deletion, held_stays, known_taken, len-le_union, clock_insertion, clock_deletion, falls_to, contains-known, IsNew, new-iff, IsNewInsertion, IsNewDeletion, new_insertion, new_deletion, Op, Insert, Delete, New, IsCounted}
use Rattle.std.specs.List.{IsDistinct}
use Rattle.std.specs.FinMap as finite_map
use Rattle.std.specs.FinSet as finite_set
use Rattle.rga_ops.proofs.MemberLaws.{none_among}
use Rattle.rga_ops.proofs.SoundLaws.{sound_after}
use Rattle.rga_ops.proofs.WaitingLaws.{distinct_inserted}
use Rattle.rga_store.specs.Child.{is_child}

-- ---- what is well-formed

-- a part of a content is as well-formed
pub sound_within : (c d : Content) → IsWithin c d → IsSound d → IsSound c
sound_within c d w sound o h = sound o (held_stays c d o w h)

-- ---- how many are inserted, and how many are known

pub deleted_then : (c : Content) (id parent : Identifier) (ch : ℕ) (q : Identifier) → finite_set.contains (join c (single (Insert id parent ch))).deleted q ≡ finite_set.contains c.deleted q
deleted_then c id parent ch q = contains-join c (single (Insert id parent ch)) q ∙ ap (λ b. finite_set.contains c.deleted q || b) (finite_set.contains-empty id_cmp q) ∙ or-false (finite_set.contains c.deleted q)

pub deleted_now : (c : Content) (id q : Identifier) → finite_set.contains (join c (single (Delete id))).deleted q ≡ (finite_set.contains c.deleted q || is q id)
deleted_now c id q = contains-join c (single (Delete id)) q ∙ ap (λ b. finite_set.contains c.deleted q || b) (contains-single id q)

pub more_inserted : (c : Content) (id parent : Identifier) (ch : ℕ) → finite_map.get c.inserted id ≡ None → finite_map.len (join c (single (Insert id parent ch))).inserted ≡ finite_map.len c.inserted + 1
more_inserted c id parent ch none =
    ap finite_map.len (finite_map.same_map ids_total ids_exact (join c (single (Insert id parent ch))).inserted (finite_map.insert c.inserted id (element parent ch)) (λ q.
    get-insertion c id parent ch q none ∙ sym (finite_map.get-insert ids_total c.inserted id (element parent ch) q)))
    ∙ finite_map.len-insert ids_total c.inserted id (element parent ch)
    ∙ ap (λ (o : Option Element). cond (is_some o) (finite_map.len c.inserted) (finite_map.len c.inserted + 1)) none

as_many_inserted : (c : Content) (id : Identifier) → finite_map.len (join c (single (Delete id))).inserted ≡ finite_map.len c.inserted
as_many_inserted c id = ap finite_map.len (finite_map.same_map ids_total ids_exact (join c (single (Delete id))).inserted c.inserted (get-deletion c id))

-- one identifier more, where it was not known
pub more_known : (c : Content) (op : Op) → finite_set.len (known_ids (join c (single op))) ≡ cond (finite_set.contains (known_ids c) (id_of op)) (finite_set.len (known_ids c)) (finite_set.len (known_ids c) + 1)
more_known c op = ap finite_set.len (known_taken c op) ∙ finite_set.len-insert ids_total (known_ids c) (id_of op)

len-from_distinct : (ks : List Identifier) → IsDistinct is ks → finite_set.len (finite_set.from_list {R = id_cmp} ks) ≡ length ks
unfolding IsDistinct
len-from_distinct [] h = finite_set.len-empty id_cmp
len-from_distinct (k ∷ ks) h =
    finite_set.len-insert ids_total (finite_set.from_list ks) k
    ∙ ap (λ b. cond b (finite_set.len (finite_set.from_list {R = id_cmp} ks)) (finite_set.len (finite_set.from_list {R = id_cmp} ks) + 1)) (finite_set.contains-from_list ids_total ks k ∙ none_among k ks h.0)
    ∙ ap (λ n. n + 1) (len-from_distinct ks h.1) ∙ add-one (length ks)

pub len-keys : (c : Content) → length (finite_map.keys c.inserted) ≡ finite_map.len c.inserted
len-keys c = length-map (finite_map.entries c.inserted) (λ e. e.0) ∙ sym (finite_map.len-entries c.inserted)

-- what is inserted is known
pub inserted_within : (c : Content) → finite_map.len c.inserted ≤ finite_set.len (known_ids c)
inserted_within c =
    let listed : finite_set.len (finite_set.from_list {R = id_cmp} (finite_map.keys c.inserted)) ≡ finite_map.len c.inserted = len-from_distinct (finite_map.keys c.inserted) (distinct_inserted c) ∙ len-keys c in
    subst (λ n. n ≤ finite_set.len (known_ids c)) listed (len-le_union (finite_set.from_list (finite_map.keys c.inserted)) c.deleted)

-- ---- what is counted

room_now : (b : Bool) (n limit : ℕ) → n ≤ limit → (b ≡ true) ⊎ (n ≢ limit) → cond b n (n + 1) ≤ limit
room_now true n limit h r = h
room_now false n limit h (inl t) = absurd (true≢false (sym t))
room_now false n limit h (inr other) = omega (arith, other)

module _ (c : Content) (latest insertions identifiers limit : ℕ) (w : IsCounted c latest insertions identifiers limit) where
  space : {b : Bool} → (b ≡ true) ⊎ (finite_set.len (known_ids c) ≢ limit) → (b ≡ true) ⊎ (identifiers ≢ limit)
  space (inl t) = inl t
  space (inr other) = inr (λ e. other (sym w.known ∙ e))

  pub counted_insertion : (id parent : Identifier) (ch : ℕ) → answer limit c (Insert id parent ch) ≡ Ok New
      → IsCounted (join c (single (Insert id parent ch))) (max latest id.counter) (insertions + 1) (cond (finite_set.contains c.deleted id) identifiers (identifiers + 1)) limit
  counted_insertion id parent ch answered =
      let new : IsNew limit c (Insert id parent ch) = (new-iff limit c (Insert id parent ch)).0 answered in
      let its : IsNewInsertion limit c id parent = new_insertion limit c id parent ch answered in
      record {
        sound = sound_after c (Insert id parent ch) w.sound new.well_formed;
        clocked = ap (λ n. max n id.counter) w.clocked ∙ sym (clock_insertion c id (element parent ch) its.absent (falls_to id parent its.falls));
        inserted = ap (λ n. n + 1) w.inserted ∙ sym (more_inserted c id parent ch its.absent);
        known = (λ k. cond ((sym (contains-known c id ∙ ap (λ (o : Option Element). is_some o || finite_set.contains c.deleted id) its.absent)) k) (w.known k) (w.known k + 1)) ∙ sym (more_known c (Insert id parent ch));
        room = room_now (finite_set.contains c.deleted id) identifiers limit w.room (space its.room);
        limited = w.limited;
      }

  pub counted_deletion : (id : Identifier) → answer limit c (Delete id) ≡ Ok New
      → IsCounted (join c (single (Delete id))) (max latest id.counter) insertions (cond (finite_map.contains_key c.inserted id) identifiers (identifiers + 1)) limit
  counted_deletion id answered =
      let new : IsNew limit c (Delete id) = (new-iff limit c (Delete id)).0 answered in
      let its : IsNewDeletion limit c id = new_deletion limit c id answered in
      record {
        sound = sound_after c (Delete id) w.sound new.well_formed;
        clocked = ap (λ n. max n id.counter) w.clocked ∙ sym (clock_deletion c id);
        inserted = w.inserted ∙ sym (as_many_inserted c id);
        known = (λ k. cond ((sym (contains-known c id ∙ ap (λ b. finite_map.contains_key c.inserted id || b) its.absent ∙ or-false (finite_map.contains_key c.inserted id))) k) (w.known k) (w.known k + 1)) ∙ sym (more_known c (Delete id));
        room = room_now (finite_map.contains_key c.inserted id) identifiers limit w.room (space its.room);
        limited = w.limited;
      }

-- ---- the element of a child

pub record IsChild (c : Content) (p k : Identifier) : Type 0 where
  pub element : Element
  pub found : finite_map.get c.inserted k ≡ Some element
  pub parent : element.parent ≡ p

pub child_found : (c : Content) (p k : Identifier) → is_child c p k ≡ true → IsChild c p k
child_found c p k h =
    elim (finite_map.get c.inserted k) as (λ o. finite_map.get c.inserted k ≡ o → option_map_or (λ x. is_id x.parent p) o false ≡ true → IsChild c p k) [
      | None ↦ λ g h. absurd (true≢false (sym h))
      | Some x ↦ λ g h. record { element = x; found = g; parent = is_id-is x.parent p h }
    ] refl h
