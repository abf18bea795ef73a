-- What a revert deleted can be restored, and what it inserted is complete.
use Rattle.rga_doc.proofs.Prelude.{◌≡◌, ℕ, Bool, true, false, ◌&&◌, ◌||◌, not, List, [], ◌∷◌, ◌++◌, map, filter, length, refl, sym, ap, ◌∙◌, subst, Ok, list_any, list_all, AllByRecursion, Identifier, is_id, Content, clock_of, join, content_of}
use Rattle.rga_doc.proofs.Prelude.{is_complete, is_visible, Op, Delete, is, is_id-same, all_map, distinct_elements, restorations, revert_operations, revert_answer, are_restorable, inserted_elements, deleted_elements, element_characters}
use Rattle.rga_doc.proofs.EditLaws.{allowed}
use Rattle.rga_doc.proofs.UndoLists.{inserted_elements-append, inserted_elements-deletions, deleted_elements-revert}
use Rattle.rga_doc.proofs.PlaceLaws.{complete_still}
use Rattle.rga_doc.proofs.ApartLists.{Apart, apart_if_once}
use Rattle.rga_doc.proofs.RevertLaws.{AreComplete, reverts, gone_complete}

-- ---- a revert of what is complete and apart is not refused for it

none_with : (c : Content) (id : Identifier) (ids : List Identifier) → AllByRecursion (λ y. is id y ≡ false) ids → list_any (λ (x : Identifier × ℕ). is_id x.0 id) (element_characters c ids) ≡ false
none_with c id [] h = refl
none_with c id (y ∷ ids) h = λ k. (is_id-same y id ∙ h.0) k || none_with c id ids h.1 k

pub restorable_if : (c d : Content) (ids : List Identifier) → AreComplete d ids → Apart ids → are_restorable d (element_characters c ids) ≡ true
restorable_if c d [] complete apart = refl
restorable_if c d (id ∷ ids) complete apart = λ k. (complete.0 k && not (none_with c id ids apart.0 k)) && restorable_if c d ids complete.1 apart.1 k

-- ---- a revert

record Reverted (c : Content) (ops : List Op) : Type 0 where
  inserted : AreComplete (join c (content_of ops)) (inserted_elements ops)
  deleted : AreComplete (join c (content_of ops)) (deleted_elements ops)
  apart : Apart (deleted_elements ops)

reverted : (limit replica : ℕ) (c : Content) (gone : List Identifier) (back : List (Identifier × ℕ)) → revert_answer limit c back ≡ Ok tt → Reverted c (revert_operations replica c gone back)
reverted limit replica c gone back h =
    let able = (allowed limit c (are_restorable c back) (length back) h).1 in
    let ids : List Identifier = distinct_elements (filter (is_visible c) gone) in
    let rs : List Op = restorations replica (clock_of c) back in
    let done = reverts c replica gone back able in
    let inserts : inserted_elements (map Delete ids ++ rs) ≡ inserted_elements rs = inserted_elements-append (map Delete ids) rs ∙ ap (λ xs. xs ++ inserted_elements rs) (inserted_elements-deletions ids) in
    let deletes : deleted_elements (map Delete ids ++ rs) ≡ ids = deleted_elements-revert ids replica (clock_of c) back in
    record {
      inserted = subst (λ xs. AreComplete (join c (content_of (map Delete ids ++ rs))) xs) (sym inserts) (subst (λ f. AreComplete f (inserted_elements rs)) done.leads.joined done.restored.complete);
      deleted = subst (λ xs. AreComplete (join c (content_of (map Delete ids ++ rs))) xs) (sym deletes)
          (all_map (λ q. is_complete c q ≡ true) (λ q. is_complete (join c (content_of (map Delete ids ++ rs))) q ≡ true) (λ q h. complete_still c (content_of (map Delete ids ++ rs)) q h) ids (gone_complete c gone));
      apart = subst Apart (sym deletes) (apart_if_once (filter (is_visible c) gone));
    }

pub reverted_complete : (limit replica : ℕ) (c : Content) (gone : List Identifier) (back : List (Identifier × ℕ)) → revert_answer limit c back ≡ Ok tt → list_all (is_complete (join c (content_of (revert_operations replica c gone back)))) (inserted_elements (revert_operations replica c gone back)) ≡ true
reverted_complete limit replica c gone back h = all (is_complete (join c (content_of (revert_operations replica c gone back)))) (inserted_elements (revert_operations replica c gone back)) (reverted limit replica c gone back h).inserted
  where
    all : (p : Identifier → Bool) (ids : List Identifier) → AllByRecursion (λ q. p q ≡ true) ids → list_all p ids ≡ true
    all p [] h = refl
    all p (id ∷ ids) h = λ k. h.0 k && all p ids h.1 k

pub reverted_restorable : (limit replica : ℕ) (c : Content) (gone : List Identifier) (back : List (Identifier × ℕ)) → revert_answer limit c back ≡ Ok tt → are_restorable (join c (content_of (revert_operations replica c gone back))) (element_characters c (deleted_elements (revert_operations replica c gone back))) ≡ true
reverted_restorable limit replica c gone back h =
    let ops : List Op = revert_operations replica c gone back in
    let done = reverted limit replica c gone back h in
    restorable_if c (join c (content_of ops)) (deleted_elements ops) done.deleted done.apart
