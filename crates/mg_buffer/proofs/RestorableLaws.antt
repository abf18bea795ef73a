-- Every group can be reverted: its deleted elements are complete and apart, and stay so.
use Rattle.mg_buffer.proofs.Prelude.{◌≡◌, ℕ, ◌+◌, ◌<◌, ◌≤◌, true, false, not, ◌&&◌, ◌||◌, List, [], ◌∷◌, ◌++◌, map, filter, refl, sym, ap, ◌∙◌, subst, arith, append-nil, true≢false, Ok, if◌then◌else◌, and_parts, not-true, or_parts, or_right, map-id, all_map, list_all, Identifier, identifier, is_id, is_root, Content, clock_of, join, content_of, is_complete, is_visible, Op, Delete, distinct_elements, restorations, revert_operations, revert_answer, are_restorable, inserted_elements, deleted_elements, element_characters, Past, stand_in, substituted, AllByRecursion, AreApart, greatest_counter, deleted_ones}
use Rattle.rga_ops.proofs.IdentifierLaws.{is_id-itself, is_id-same, is_id-is}
use Rattle.rga_ops.proofs.NewestTextLaws.{root_or_complete_within}
use Rattle.rga_doc.proofs.UndoLists.{apart_by_counter, deleted_elements-append, deleted_elements-deletions, inserted_elements-append, inserted_elements-deletions, deleted_elements-restorations}
use Rattle.rga_doc.proofs.ApartLists.{apart_if_once}
use Rattle.rga_doc.proofs.RevertLaws.{back_complete, gone_complete}
use Rattle.rga_doc.proofs.RevertSets.{among, id_swap}
use Rattle.rga_doc.proofs.RevertedLaws.{restorable_if, reverted_complete}
use Rattle.rga_doc.proofs.PlaceLaws.{complete_still}
use Rattle.mg_buffer.proofs.OldLaws.{either, greatest_replacement, greatest_within, map-map, replacement}

abbrev pub Back : Type 0
Back = List (Identifier × ℕ)

record Parts (c : Content) (b : Identifier × ℕ) (back : Back) : Type 0 where
  complete : is_complete c b.0 ≡ true
  apart : among b.0 back ≡ false
  rest : are_restorable c back ≡ true

parts_of : (c : Content) (b : Identifier × ℕ) (back : Back) → are_restorable c (b ∷ back) ≡ true → Parts c b back
parts_of c b back h =
    let two = and_parts (is_complete c b.0 && not (among b.0 back)) (are_restorable c back) h in
    let first = and_parts (is_complete c b.0) (not (among b.0 back)) two.0 in
    record { complete = first.0; apart = not-true (among b.0 back) first.1; rest = two.1 }

pub restorable_old : (c : Content) (back : Back) → are_restorable c back ≡ true → greatest_counter (deleted_ones back) ≤ clock_of c
restorable_old c back able =
    greatest_within (clock_of c) (deleted_ones back)
    (all_map (λ id. is_complete c id ≡ true) (λ (id : Identifier). id.counter ≤ clock_of c) (λ id h. root_or_complete_within c id (or_right (is_root id) (is_complete c id) h)) (deleted_ones back) (back_complete c back able))

-- none stands twice
pub restorable_apart : (c : Content) (back : Back) → are_restorable c back ≡ true → AreApart (deleted_ones back)
restorable_apart c [] h = tt
restorable_apart c (b ∷ back) h = let p = parts_of c b back h in (apart_from b.0 back p.apart, restorable_apart c back p.rest)
  where
    apart_from : (id : Identifier) (back : Back) → among id back ≡ false → AllByRecursion (λ q. is_id q id ≡ false) (deleted_ones back)
    apart_from id [] h = tt
    apart_from id (x ∷ back) h = let p = or_parts (is_id x.0 id) (among id back) h in (p.0, apart_from id back p.1)

-- under every join
pub restorable_still : (c x : Content) (back : Back) → are_restorable c back ≡ true → are_restorable (join c x) back ≡ true
restorable_still c x [] h = refl
restorable_still c x (b ∷ back) h =
    let p = parts_of c b back h in
    (λ k. (complete_still c x b.0 p.complete k && not (p.apart k)) && restorable_still c x back p.rest k)

-- ---- what is newer than all comes in the place of an element

abbrev pub others : (Identifier → Identifier) → Back → Back
others f back = map (λ (b : Identifier × ℕ). (f b.0, b.1)) back

module _ (old new : Identifier) where
  pub newer_apart : (id : Identifier) → id.counter < new.counter → is_id new id ≡ false
  newer_apart id low = is_id-same new id ∙ apart_by_counter id new low

  -- different ones stay so
  replacement_apart : (a b : Identifier) → a.counter < new.counter → b.counter < new.counter → is_id a b ≡ false → is_id (replacement old new a) (replacement old new b) ≡ false
  replacement_apart a b low_a low_b apart = elim (is_id old a) as (λ s. is_id old a ≡ s → is_id (if s then new else a) (replacement old new b) ≡ false) [
    | true ↦ λ s. elim (is_id old b) as (λ t. is_id old b ≡ t → is_id new (if t then new else b) ≡ false) [
      | true ↦ λ t. absurd (true≢false (sym (ap (λ x. is_id x b) (sym (is_id-is old a s) ∙ is_id-is old b t) ∙ is_id-itself b) ∙ apart))
      | false ↦ λ _. newer_apart b low_b
    ] refl
    | false ↦ λ _. either (λ x. is_id a x ≡ false) (is_id old b) new b (id_swap a new ∙ newer_apart a low_a) apart
  ] refl

  among_replacement : (id : Identifier) (back : Back) → id.counter < new.counter → greatest_counter (deleted_ones back) < new.counter → among id back ≡ false → among (replacement old new id) (others (replacement old new) back) ≡ false
  among_replacement id [] low below apart = refl
  among_replacement id (b ∷ back) low below apart =
      let p = or_parts (is_id b.0 id) (among id back) apart in
      λ k. replacement_apart b.0 id (omega (arith, below)) low p.0 k || among_replacement id back low (omega (arith, below)) p.1 k

  replacement_restorable : (c : Content) (back : Back) → is_complete c new ≡ true → greatest_counter (deleted_ones back) < new.counter → are_restorable c back ≡ true → are_restorable c (others (replacement old new) back) ≡ true
  replacement_restorable c [] complete below able = refl
  replacement_restorable c (b ∷ back) complete below able =
      let p = parts_of c b back able in
      λ k. (either (λ x. is_complete c x ≡ true) (is_id old b.0) new b.0 complete p.complete k && not (among_replacement b.0 back (omega (arith, below)) (omega (arith, below)) p.apart k))
      && replacement_restorable c back complete (omega (arith, below)) p.rest k

-- so it is with each that is restored in turn
standing_restorable : (back : Back) (c : Content) (replica last : ℕ) (deleted : Back) → list_all (is_complete c) (inserted_elements (restorations replica last back)) ≡ true → greatest_counter (deleted_ones deleted) ≤ last → are_restorable c deleted ≡ true → are_restorable c (others (stand_in (restorations replica last back)) deleted) ≡ true
standing_restorable [] c replica last deleted all below able = ap (are_restorable c) (map-id deleted) ∙ able
standing_restorable (b ∷ back) c replica last deleted all below able =
    let x : Identifier = identifier (last + 1) replica in
    let p = and_parts (is_complete c x) (list_all (is_complete c) (inserted_elements (restorations replica (last + 1) back))) all in
    let firsts : map (replacement b.0 x) (deleted_ones deleted) ≡ deleted_ones (others (replacement b.0 x) deleted) = map-map _ _ deleted ∙ sym (map-map _ _ deleted) in
    ap (are_restorable c) (sym (map-map _ _ deleted))
    ∙ standing_restorable back c replica (last + 1) (others (replacement b.0 x) deleted) p.1
    (subst (λ xs. greatest_counter xs ≤ last + 1) firsts (greatest_replacement b.0 x (last + 1) (deleted_ones deleted) (omega arith) (omega (arith, below))))
    (replacement_restorable b.0 x c deleted p.0 (omega (arith, below)) able)

pub stand_in-deletions_first : (ids : List Identifier) (ops : List Op) → stand_in (map Delete ids ++ ops) ≡ stand_in ops
stand_in-deletions_first [] ops = refl
stand_in-deletions_first (id ∷ ids) ops = stand_in-deletions_first ids ops

module _ (replica : ℕ) (c : Content) (gone : List Identifier) (back : Back) where
  abbrev ids : List Identifier
  ids = distinct_elements (filter (is_visible c) gone)

  abbrev rs : List Op
  rs = restorations replica (clock_of c) back

  abbrev after : Content
  after = join c (content_of (revert_operations replica c gone back))

  pub inserted_by_revert : inserted_elements (revert_operations replica c gone back) ≡ inserted_elements rs
  inserted_by_revert = inserted_elements-append (map Delete ids) rs ∙ ap (λ xs. xs ++ inserted_elements rs) (inserted_elements-deletions ids)

  -- what a revert deletes could be restored before it too
  pub gone_restorable : are_restorable c (element_characters c (deleted_elements (revert_operations replica c gone back))) ≡ true
  gone_restorable =
      let deletes : deleted_elements (map Delete ids ++ rs) ≡ ids =
      deleted_elements-append (map Delete ids) rs ∙ (λ k. deleted_elements-deletions ids k ++ deleted_elements-restorations replica (clock_of c) back k) ∙ append-nil ids in
      ap (λ xs. are_restorable c (element_characters c xs)) deletes ∙ restorable_if c c ids (gone_complete c gone) (apart_if_once (filter (is_visible c) gone))

  -- after an undo each group that could be reverted can be, with the elements that stand in it then
  pub substituted_restorable : (limit : ℕ) (g : Past) → revert_answer limit c back ≡ Ok tt → are_restorable c g.deleted ≡ true → are_restorable after g.deleted ≡ true → are_restorable after (substituted (stand_in (revert_operations replica c gone back)) g).deleted ≡ true
  substituted_restorable limit g allowed able there =
      ap (λ (f : Identifier → Identifier). are_restorable after (substituted f g).deleted) (stand_in-deletions_first ids rs)
      ∙ standing_restorable back after replica (clock_of c) g.deleted
      (ap (list_all (is_complete after)) (sym inserted_by_revert) ∙ reverted_complete limit replica c gone back allowed) (restorable_old c g.deleted able) there
