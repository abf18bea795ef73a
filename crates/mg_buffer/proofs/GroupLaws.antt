-- Groups: that each can be reverted, and that point keeps a place over an undo.
use Rattle.mg_buffer.proofs.Prelude.{◌≡◌, ℕ, zero, suc, ◌-◌, true, ◌&&◌, is_some, length, List, slice_get, unwrap_or, [], ◌∷◌, refl, sym, ◌∙◌, true≢false, Option, Some, None, Ok, and_parts, option_map_or, list_all, Identifier, Content, join, content_of, place, is_complete, Splice, Op, splices_operations, splices_answer, revert_operations, revert_answer, are_restorable, inserted_elements, deleted_elements, element_characters, Marker, Past, past_at, past_of, with_group, are_revertible, stand_in, all_substituted, point_after, stands, ◌<◌, ◌≤◌, option_map, map, ap, arith, map-append, slice_get-get_or, last_group}
use Rattle.std.proofs.lemmas.List.Folds.{list_all-append}
use Rattle.rga_ops.proofs.VisibleLaws.{no_place}
use Rattle.rga_doc.proofs.PlaceLaws.{stands_still}
use Rattle.rga_doc.proofs.RevertedLaws.{reverted_complete, reverted_restorable}
use Rattle.rga_doc.proofs.UndoApart.{edit_restorable}
use Rattle.mg_buffer.proofs.RestorableLaws.{restorable_still, gone_restorable, substituted_restorable}

-- ---- one is added, or taken

pub map-with_group : {A B : Type 0} (f : A → B) (groups : List A) (g : A) (ops : List Op) → map f (with_group groups g ops) ≡ with_group (map f groups) (f g) ops
map-with_group f groups g [] = refl
map-with_group f groups g (op ∷ ops) = map-append f groups (g ∷ [])

pub last_group_at : (groups : List Past) (n : ℕ) → 0 < n → n ≤ length groups → last_group groups n ≡ Some (n - 1, past_at groups (n - 1))
last_group_at groups zero some within = absurd (omega (arith, some))
last_group_at groups (suc i) some within =
    let less : i ≡ suc i - 1 = omega arith in
    ap (option_map (λ (g : Past). (i, g))) (slice_get-get_or groups i _ (omega (arith, within))) ∙ ap (λ k. Some (k, past_at groups k)) less

-- ---- every group can be reverted

pub past_restorable : (c : Content) (groups : List Past) (i : ℕ) → are_revertible c groups ≡ true → are_restorable c (past_at groups i).deleted ≡ true
past_restorable c [] i h = refl
past_restorable c (x ∷ groups) zero h = (and_parts (are_restorable c x.deleted) (are_revertible c groups) h).0
past_restorable c (x ∷ groups) (suc i) h = past_restorable c groups i (and_parts (are_restorable c x.deleted) (are_revertible c groups) h).1

pub still_revertible : (c x : Content) (groups : List Past) → are_revertible c groups ≡ true → are_revertible (join c x) groups ≡ true
still_revertible c x [] h = refl
still_revertible c x (g ∷ groups) h =
    let p = and_parts (are_restorable c g.deleted) (are_revertible c groups) h in
    (λ k. restorable_still c x g.deleted p.0 k && still_revertible c x groups p.1 k)

with_revertible : (c : Content) (groups : List Past) (g : Past) (ops : List Op) → are_revertible c groups ≡ true → are_restorable c g.deleted ≡ true → are_revertible c (with_group groups g ops) ≡ true
with_revertible c groups g [] h able = h
with_revertible c groups g (op ∷ ops) h able = list_all-append (λ (x : Past). are_restorable c x.deleted) groups (g ∷ []) ∙ (λ k. h k && (able k && true))

-- a command leaves them so, and its own group
pub edited_revertible : (limit replica : ℕ) (c : Content) (splices : List Splice) (groups : List Past) → splices_answer limit c splices ≡ Ok tt → are_revertible c groups ≡ true →
    are_revertible (join c (content_of (splices_operations replica c splices))) (with_group groups (past_of c (splices_operations replica c splices)) (splices_operations replica c splices)) ≡ true
edited_revertible limit replica c splices groups allowed h =
    let ops : List Op = splices_operations replica c splices in
    with_revertible (join c (content_of ops)) groups (past_of c ops) ops (still_revertible c (content_of ops) groups h) (edit_restorable limit replica c splices allowed)

complete_stands : (c : Content) (id : Identifier) → is_complete c id ≡ true → is_some (place c id) ≡ true
complete_stands c id h = elim (place c id) as (λ o. place c id ≡ o → is_some o ≡ true) [
  | None ↦ λ e. absurd (true≢false (sym h ∙ ((no_place c id).0 e).1))
  | Some n ↦ λ _. refl
] refl

module _ (limit replica : ℕ) (c : Content) (gone : List Identifier) (back : List (Identifier × ℕ)) (allowed : revert_answer limit c back ≡ Ok tt) where
  abbrev ops : List Op
  ops = revert_operations replica c gone back

  abbrev after : Content
  after = join c (content_of ops)

  all_substituted_revertible : (groups : List Past) → are_revertible c groups ≡ true → are_revertible after groups ≡ true → are_revertible after (all_substituted (stand_in ops) groups) ≡ true
  all_substituted_revertible [] h there = refl
  all_substituted_revertible (g ∷ groups) h there =
      let p = and_parts (are_restorable c g.deleted) (are_revertible c groups) h in
      let q = and_parts (are_restorable after g.deleted) (are_revertible after groups) there in
      (λ k. substituted_restorable replica c gone back limit g allowed p.0 q.0 k && all_substituted_revertible groups p.1 q.1 k)

  -- an undo leaves them so, and its own group
  pub reverted_revertible : (groups : List Past) → are_revertible c groups ≡ true → are_revertible after (all_substituted (stand_in ops) (with_group groups (past_of c ops) ops)) ≡ true
  reverted_revertible groups h =
      let all : List Past = with_group groups (past_of c ops) ops in
      let before : are_revertible c all ≡ true = with_revertible c groups (past_of c ops) ops h (gone_restorable replica c gone back) in
      all_substituted_revertible all before (still_revertible c (content_of ops) all before)

  -- ---- point keeps a place

  any_stands : (id : Identifier) (ids : List Identifier) (i : ℕ) → is_some (place after id) ≡ true → list_all (is_complete after) ids ≡ true → is_some (place after (unwrap_or (slice_get ids i) id)) ≡ true
  any_stands id [] i h all = h
  any_stands id (x ∷ xs) zero h all = complete_stands after x (and_parts (is_complete after x) (list_all (is_complete after) xs) all).0
  any_stands id (x ∷ xs) (suc i) h all = any_stands id xs i h (and_parts (is_complete after x) (list_all (is_complete after) xs) all).1

  first_stands : (id : Identifier) (deleted : List (Identifier × ℕ)) → is_some (place after id) ≡ true → are_restorable after deleted ≡ true
      → is_some (place after (option_map_or (λ (b : Identifier × ℕ). b.0) (slice_get deleted 0) id)) ≡ true
  first_stands id [] h able = h
  first_stands id (b ∷ deleted) h able =
      let p = and_parts (is_complete after b.0 && _) (are_restorable after deleted) able in
      complete_stands after b.0 (and_parts (is_complete after b.0) _ p.0).0

  pub point_stands : (point : Identifier) → is_some (place c point) ≡ true → is_some (place after (point_after point (past_of c ops))) ≡ true
  point_stands point h =
      any_stands (option_map_or (λ (b : Identifier × ℕ). b.0) (slice_get (element_characters c (deleted_elements ops)) 0) point) (inserted_elements ops) (length (inserted_elements ops) - 1)
      (first_stands point (element_characters c (deleted_elements ops)) (stands_still c (content_of ops) point h) (reverted_restorable limit replica c gone back allowed))
      (reverted_complete limit replica c gone back allowed)

pub mark_stands_still : (c x : Content) (mark : Option Marker) → option_map_or (stands c) mark true ≡ true → option_map_or (stands (join c x)) mark true ≡ true
mark_stands_still c x None h = h
mark_stands_still c x (Some s) h = stands_still c x s.element h
