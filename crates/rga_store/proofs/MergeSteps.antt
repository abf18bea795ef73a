-- A merge, as the operations of the other store taken one by one.
use Rattle.rga_store.proofs.Prelude.{◌≡◌, ℕ, ◌≤◌, ap, ◌∙◌, None, Ok, Content, known_ids, join, IsSound, operations, taken_one_by_one, least_conflict, merge_answer, content_of-operations, list_one_by_one}
use Rattle.std.specs.FinSet as finite_set
use Rattle.rga_ops.proofs.MergeLaws.{no_least_conflict-iff, merge_taken-iff, merge_list-iff}

-- contents that do not conflict, and have room together: the other's operations are taken one by one
pub merge_one_by_one : (limit : ℕ) (c d : Content) → IsSound d → least_conflict c d ≡ None → finite_set.len (known_ids (join c d)) ≤ limit → taken_one_by_one limit c (operations d) ≡ Ok (join c d)
merge_one_by_one limit c d sound free fits =
    let merged : merge_answer limit c d ≡ Ok tt = (merge_taken-iff limit c d).1 ((no_least_conflict-iff c d).0 free, fits) in
    list_one_by_one limit c (operations d) ((merge_list-iff limit c d sound).0 merged)
    ∙ ap (λ e. Ok (join c e)) (content_of-operations d)
