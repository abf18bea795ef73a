-- The elements that an edit deletes are apart, so that its revert is not refused for them.
use Rattle.rga_doc.proofs.Prelude.{◌≡◌, ℕ, zero, suc, ◌+◌, ◌-◌, ◌≤◌, true, false, ◌||◌, List, [], ◌∷◌, ◌++◌, map, take, drop, length, refl, sym, ap, ◌∙◌, subst, arith, true≢false, append-nil, Ok, list_any, AllByRecursion, and_parts, take-append-drop}
use Rattle.rga_doc.proofs.Prelude.{Identifier, Content, clock_of, join, content_of, is_complete, text, is_visible, visible, Op, Delete, Splice, are_falling, new_characters, is, all_append, all_map, all_members, visible_distinct, chain}
use Rattle.rga_doc.proofs.Prelude.{splices_operations, draft_operations, splices_answer, left_of, are_restorable, revert_operations, inserted_elements, deleted_elements, element_characters}
use Rattle.rga_doc.proofs.SplicedCharacters.{part}
use Rattle.rga_doc.proofs.EditLaws.{allowed, splices_drafted}
use Rattle.rga_doc.proofs.FallingLaws.{falls_first}
use Rattle.rga_doc.proofs.UndoLists.{all_take, all_drop, deleted_elements-append, deleted_elements-deletions, deleted_elements-chain}
use Rattle.rga_doc.proofs.RevertLaws.{AreComplete}
use Rattle.rga_doc.proofs.PlaceLaws.{complete_still}
use Rattle.rga_doc.proofs.ApartLists.{Apart, apart_if_distinct, apart_right, apart_take, apart_parts, row_apart}
use Rattle.rga_doc.proofs.RevertedLaws.{restorable_if}
use Rattle.rga_doc.proofs.UndoLaws.{splices_edit, undo_text}

in_take : (m n : ℕ) (xs : List Identifier) (q : Identifier) → m ≤ n → list_any (is q) (take m xs) ≡ true → list_any (is q) (take n xs) ≡ true
in_take zero n xs q h m = absurd (true≢false (sym m))
in_take (suc k) zero xs q h m = absurd (omega (arith, h))
in_take (suc k) (suc n) [] q h m = m
in_take (suc k) (suc n) (x ∷ xs) q h m = elim (is q x) as (λ b. (b || list_any (is q) (take k xs)) ≡ true → (b || list_any (is q) (take n xs)) ≡ true) [
  | true ↦ λ m. refl
  | false ↦ λ m. in_take k n xs q (omega (arith, h)) m
] m

members_of : (xs : List Identifier) → AllByRecursion (λ q. list_any (is q) xs ≡ true) xs
members_of xs = all_members (λ q. list_any (is q) xs ≡ true) xs (λ q m. m)

record DraftApart (elements : List Identifier) (bound : ℕ) (ids : List Identifier) : Type 0 where
  apart : Apart ids
  within : AllByRecursion (λ q. list_any (is q) (take bound elements) ≡ true) ids

draft_apart : (splices : List Splice) (replica : ℕ) (elements : List Identifier) (last bound : ℕ) → Apart elements → are_falling bound splices ≡ true → DraftApart elements bound (deleted_elements (draft_operations replica elements last splices))
draft_apart [] replica elements last bound all falling = record { apart = tt; within = tt }
draft_apart (s ∷ splices) replica elements last bound all falling =
    let falls = falls_first s splices bound falling in
    let put : List ℕ = s.put in
    let seg : List Identifier = drop s.lo (take s.hi elements) in
    let row : List Op = chain replica last (left_of elements s.lo) put in
    let rest : List Op = draft_operations replica elements (last + length put) splices in
    let ids : deleted_elements ((map Delete seg ++ row) ++ rest) ≡ seg ++ deleted_elements rest =
    deleted_elements-append (map Delete seg ++ row) rest
    ∙ ap (λ xs. xs ++ deleted_elements rest) (deleted_elements-append (map Delete seg) row ∙ (λ k. deleted_elements-deletions seg k ++ deleted_elements-chain replica last (left_of elements s.lo) put k) ∙ append-nil seg) in
    let later = draft_apart splices replica elements (last + length put) s.lo all falls.further in
    let parts : Apart (take s.lo elements ++ drop s.lo elements) = subst Apart (sym (take-append-drop s.lo elements)) all in
    let own : Apart seg = subst Apart (part elements s.lo s.hi falls.up) (apart_take (s.hi - s.lo) (drop s.lo elements) (apart_right (take s.lo elements) (drop s.lo elements) parts)) in
    let cross : AllByRecursion (λ y. AllByRecursion (λ z. is z y ≡ false) seg) (deleted_elements rest) =
    all_map (λ q. list_any (is q) (take s.lo elements) ≡ true) (λ y. AllByRecursion (λ z. is z y ≡ false) seg)
    (λ y m. subst (AllByRecursion (λ z. is z y ≡ false)) (part elements s.lo s.hi falls.up) (all_take (λ z. is z y ≡ false) (s.hi - s.lo) (drop s.lo elements) (apart_parts (take s.lo elements) (drop s.lo elements) y parts m))) (deleted_elements rest) later.within in
    let low : AllByRecursion (λ q. list_any (is q) (take bound elements) ≡ true) (deleted_elements rest) =
    all_map (λ q. list_any (is q) (take s.lo elements) ≡ true) (λ q. list_any (is q) (take bound elements) ≡ true) (λ q m. in_take s.lo bound elements q (omega (arith, falls.up, falls.within)) m) (deleted_elements rest) later.within in
    let here : AllByRecursion (λ q. list_any (is q) (take bound elements) ≡ true) seg =
    all_drop (λ q. list_any (is q) (take bound elements) ≡ true) s.lo (take s.hi elements)
    (all_map (λ q. list_any (is q) (take s.hi elements) ≡ true) (λ q. list_any (is q) (take bound elements) ≡ true) (λ q m. in_take s.hi bound elements q falls.within m) (take s.hi elements) (members_of (take s.hi elements))) in
    subst (DraftApart elements bound) (sym ids) (record {
      apart = row_apart seg (deleted_elements rest) own later.apart cross;
      within = all_append (λ q. list_any (is q) (take bound elements) ≡ true) seg (deleted_elements rest) here low;
    })

-- ---- the group of an edit

-- it can be restored on the content that the edit left
pub edit_restorable : (limit replica : ℕ) (c : Content) (splices : List Splice) → splices_answer limit c splices ≡ Ok tt → are_restorable (join c (content_of (splices_operations replica c splices))) (element_characters c (deleted_elements (splices_operations replica c splices))) ≡ true
edit_restorable limit replica c splices h =
    let ops : List Op = splices_operations replica c splices in
    let s = allowed limit c (are_falling (length (text c)) splices) (new_characters splices) h in
    let edit = splices_edit limit replica c splices h in
    let complete : AreComplete (join c (content_of ops)) (deleted_elements ops) =
    all_map (λ q. is_visible c q ≡ true) (λ q. is_complete (join c (content_of ops)) q ≡ true) (λ q v. complete_still c (content_of ops) q (and_parts (is_complete c q) _ v).0) (deleted_elements ops) edit.deletes in
    let apart : Apart (deleted_elements ops) = subst (λ xs. Apart (deleted_elements xs)) (sym (splices_drafted limit replica c splices h))
    (draft_apart splices replica (visible c) (clock_of c) (length (text c)) (apart_if_distinct (visible c) (visible_distinct c)) s.1).apart in
    restorable_if c (join c (content_of ops)) (deleted_elements ops) complete apart

pub undo_of_edit : (limit replica : ℕ) (c : Content) (splices : List Splice) → splices_answer limit c splices ≡ Ok tt → text (join (join c (content_of (splices_operations replica c splices))) (content_of (revert_operations replica (join c (content_of (splices_operations replica c splices))) (inserted_elements (splices_operations replica c splices)) (element_characters c (deleted_elements (splices_operations replica c splices)))))) ≡ text c
undo_of_edit limit replica c splices h = undo_text replica c (splices_operations replica c splices) (splices_edit limit replica c splices h) (edit_restorable limit replica c splices h)
