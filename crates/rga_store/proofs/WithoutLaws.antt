-- What removing an operation again leaves: the content from before it, with its counts.
use Rattle.rga_store.proofs.Prelude.{◌≡◌, ℕ, ◌+◌, ◌-◌, ◌≤◌, Bool, true, false, cond, not, ◌&&◌, ◌||◌, is_some, refl, sym, ap, ◌∙◌, subst, arith, Option, Some, None, Ok, or-false, Identifier, Element, element, Content, join, single, known_ids, clock_of, Holds, IsWithin, answer, after_answer, ids_total, is, is_itself, same_id, same_content, within_join, contains-known, new_insertion, new_deletion, taken_is, Op, Insert, Delete, New, without_insertion, without_deletion, without_operation, IsCounted, get-insertion, get-deletion}
use Rattle.std.specs.FinMap as finite_map
use Rattle.std.specs.FinSet as finite_set
use Rattle.rga_store.proofs.StepLaws.{deleted_then, deleted_now, more_known, more_inserted, sound_within}

-- ---- what is left, joined again

pub left_inserted : (c : Content) (id q : Identifier) → finite_map.get (without_insertion id c).inserted q ≡ cond (is q id) None (finite_map.get c.inserted q)
left_inserted c id q = finite_map.get-remove ids_total c.inserted id q

uninserted : (c : Content) (id : Identifier) → finite_map.get (without_insertion id c).inserted id ≡ None
uninserted c id = left_inserted c id id ∙ ap (λ b. cond b None (finite_map.get c.inserted id)) (is_itself id)

left_deleted : (c : Content) (id q : Identifier) → finite_set.contains (without_deletion id c).deleted q ≡ (not (is q id) && finite_set.contains c.deleted q)
left_deleted c id q = finite_set.contains-remove ids_total c.deleted id q

undeleted : (c : Content) (id : Identifier) → finite_set.contains (without_deletion id c).deleted id ≡ false
undeleted c id = left_deleted c id id ∙ ap (λ b. not b && finite_set.contains c.deleted id) (is_itself id)

insertion_again : (c : Content) (id : Identifier) (x : Element) → finite_map.get c.inserted id ≡ Some x → join (without_insertion id c) (single (Insert id x.parent x.ch)) ≡ c
insertion_again c id x g = same_content _ _
    (λ q. get-insertion (without_insertion id c) id x.parent x.ch q (uninserted c id)
    ∙ ap (cond (is q id) (Some (element x.parent x.ch))) (left_inserted c id q)
    ∙ elim (is q id) as (λ b. is q id ≡ b → cond b (Some x) (cond b None (finite_map.get c.inserted q)) ≡ finite_map.get c.inserted q) [
      | true ↦ λ t. sym (ap (finite_map.get c.inserted) (same_id q id t) ∙ g)
      | false ↦ λ t. refl
    ] refl)
    (λ q. deleted_then (without_insertion id c) id x.parent x.ch q)

deletion_again : (c : Content) (id : Identifier) → finite_set.contains c.deleted id ≡ true → join (without_deletion id c) (single (Delete id)) ≡ c
deletion_again c id g = same_content _ _
    (λ q. get-deletion (without_deletion id c) id q)
    (λ q. deleted_now (without_deletion id c) id q ∙ ap (λ b. b || is q id) (left_deleted c id q)
    ∙ elim (is q id) as (λ b. is q id ≡ b → ((not b && finite_set.contains c.deleted q) || b) ≡ finite_set.contains c.deleted q) [
      | true ↦ λ t. sym (ap (finite_set.contains c.deleted) (same_id q id t) ∙ g)
      | false ↦ λ t. or-false (finite_set.contains c.deleted q)
    ] refl)

-- ---- a new operation, removed again

pub without_new : (limit : ℕ) (c : Content) (op : Op) → answer limit c op ≡ Ok New → without_operation op (join c (single op)) ≡ c
without_new limit c (Insert id parent ch) h =
    let none : finite_map.get c.inserted id ≡ None = (new_insertion limit c id parent ch h).absent in
    same_content _ _
    (λ q. left_inserted (join c (single (Insert id parent ch))) id q ∙ ap (cond (is q id) None) (get-insertion c id parent ch q none)
    ∙ elim (is q id) as (λ b. is q id ≡ b → cond b None (cond b (Some (element parent ch)) (finite_map.get c.inserted q)) ≡ finite_map.get c.inserted q) [
      | true ↦ λ t. sym (ap (finite_map.get c.inserted) (same_id q id t) ∙ none)
      | false ↦ λ t. refl
    ] refl)
    (λ q. deleted_then c id parent ch q)
without_new limit c (Delete id) h =
    let none : finite_set.contains c.deleted id ≡ false = (new_deletion limit c id h).absent in
    same_content _ _
    (λ q. get-deletion c id q)
    (λ q. left_deleted (join c (single (Delete id))) id q ∙ ap (λ b. not (is q id) && b) (deleted_now c id q)
    ∙ elim (is q id) as (λ b. is q id ≡ b → (not b && (finite_set.contains c.deleted q || b)) ≡ finite_set.contains c.deleted q) [
      | true ↦ λ t. sym (ap (finite_set.contains c.deleted) (same_id q id t) ∙ none)
      | false ↦ λ t. or-false (finite_set.contains c.deleted q)
    ] refl)

pub new_held : (limit : ℕ) (c : Content) (op : Op) → answer limit c op ≡ Ok New → Holds (join c (single op)) op
new_held limit c op h = (taken_is limit c op (join c (single op)) (ap (after_answer c op) h)).held

-- ---- counts

counted_less : (b : Bool) (n m : ℕ) → n ≡ cond b m (m + 1) → cond b n (n - 1) ≡ m
counted_less true n m h = h
counted_less false n m h = omega arith

one_counted : (b : Bool) (n m : ℕ) → n ≡ cond b m (m + 1) → cond b 0 1 ≤ n
one_counted true n m h = omega arith
one_counted false n m h = omega arith

no_more : (b : Bool) (n limit : ℕ) → n ≤ limit → cond b n (n - 1) ≤ limit
no_more true n limit h = h
no_more false n limit h = omega arith

module _ (c : Content) (latest insertions identifiers limit : ℕ) (w : IsCounted c latest insertions identifiers limit) where
  module _ (id : Identifier) (x : Element) (g : finite_map.get c.inserted id ≡ Some x) where
    known_before : identifiers ≡ cond (finite_set.contains c.deleted id) (finite_set.len (known_ids (without_insertion id c))) (finite_set.len (known_ids (without_insertion id c)) + 1)
    known_before =
        w.known ∙ ap (λ d. finite_set.len (known_ids d)) (sym (insertion_again c id x g)) ∙ more_known (without_insertion id c) (Insert id x.parent x.ch)
        ∙ ap (λ b. cond b (finite_set.len (known_ids (without_insertion id c))) (finite_set.len (known_ids (without_insertion id c)) + 1)) (contains-known (without_insertion id c) id ∙ ap (λ (o : Option Element). is_some o || finite_set.contains c.deleted id) (uninserted c id))

    inserted_before : insertions ≡ finite_map.len (without_insertion id c).inserted + 1
    inserted_before = w.inserted ∙ ap (λ (d : Content). finite_map.len d.inserted) (sym (insertion_again c id x g)) ∙ more_inserted (without_insertion id c) id x.parent x.ch (uninserted c id)

    pub one_inserted : 1 ≤ insertions
    one_inserted = omega (arith, inserted_before)

    pub one_insertion_known : cond (finite_set.contains c.deleted id) 0 1 ≤ identifiers
    one_insertion_known = one_counted (finite_set.contains c.deleted id) identifiers _ known_before

    pub counted_without_insertion : IsCounted (without_insertion id c) (clock_of (without_insertion id c)) (insertions - 1) (cond (finite_set.contains c.deleted id) identifiers (identifiers - 1)) limit
    counted_without_insertion = record {
      sound = sound_within (without_insertion id c) c (subst (λ d. IsWithin (without_insertion id c) d) (insertion_again c id x g) (within_join (without_insertion id c) (single (Insert id x.parent x.ch)))) w.sound;
      clocked = refl;
      inserted = one_less insertions (finite_map.len (without_insertion id c).inserted) inserted_before;
      known = counted_less (finite_set.contains c.deleted id) identifiers _ known_before;
      room = no_more (finite_set.contains c.deleted id) identifiers limit w.room;
      limited = w.limited;
    }
      where
        one_less : (n m : ℕ) → n ≡ m + 1 → n - 1 ≡ m
        one_less n m h = omega arith

  module _ (id : Identifier) (g : finite_set.contains c.deleted id ≡ true) where
    known_then : identifiers ≡ cond (finite_map.contains_key c.inserted id) (finite_set.len (known_ids (without_deletion id c))) (finite_set.len (known_ids (without_deletion id c)) + 1)
    known_then =
        w.known ∙ ap (λ d. finite_set.len (known_ids d)) (sym (deletion_again c id g)) ∙ more_known (without_deletion id c) (Delete id)
        ∙ ap (λ b. cond b (finite_set.len (known_ids (without_deletion id c))) (finite_set.len (known_ids (without_deletion id c)) + 1)) (contains-known (without_deletion id c) id ∙ ap (λ b. finite_map.contains_key c.inserted id || b) (undeleted c id) ∙ or-false (finite_map.contains_key c.inserted id))

    pub one_deletion_known : cond (finite_map.contains_key c.inserted id) 0 1 ≤ identifiers
    one_deletion_known = one_counted (finite_map.contains_key c.inserted id) identifiers _ known_then

    pub counted_without_deletion : IsCounted (without_deletion id c) (clock_of (without_deletion id c)) insertions (cond (finite_map.contains_key c.inserted id) identifiers (identifiers - 1)) limit
    counted_without_deletion = record {
      sound = sound_within (without_deletion id c) c (subst (λ d. IsWithin (without_deletion id c) d) (deletion_again c id g) (within_join (without_deletion id c) (single (Delete id)))) w.sound;
      clocked = refl;
      inserted = w.inserted;
      known = counted_less (finite_map.contains_key c.inserted id) identifiers _ known_then;
      room = no_more (finite_map.contains_key c.inserted id) identifiers limit w.room;
      limited = w.limited;
    }
