-- Parts of lists of entries, and those of larger identifiers.
use Rattle.std.proofs.Common.{◌≡◌, ℕ, ◌+◌, ◌<◌, ◌≤◌, suc, zero, true, false, cond, List, [], ◌∷◌, ◌++◌, length, take, drop, refl, sym, ap, ◌∙◌, arith}
use Rattle.std.specs.Ordering.{is_gt}
use Rattle.std.proofs.lemmas.List.{drop-take, take-take, take-append-drop}
use Rattle.rga_ops.specs.Identifier.{id_cmp}
use Rattle.rga_sequence.specs.declared.entry.Entry.{Entry}
use Rattle.rga_sequence.specs.Entries.{put_entry_past_larger}
use Rattle.rga_sequence.specs.Blocks.{larger_at_front}

-- ---- two cuts

pub drop_early : (i n : ℕ) (xs : List Entry) → i ≤ n → drop i (take n xs) ++ drop n xs ≡ drop i xs
drop_early zero zero xs h = refl
drop_early zero (suc n) [] h = refl
drop_early zero (suc n) (x ∷ xs) h = ap (λ r. x ∷ r) (drop_early zero n xs (omega arith))
drop_early (suc i) zero xs h = absurd (omega arith)
drop_early (suc i) (suc n) [] h = refl
drop_early (suc i) (suc n) (x ∷ xs) h = drop_early i n xs (omega arith)

pub take_both : (i n : ℕ) (xs : List Entry) → take i xs ++ take n (drop i xs) ≡ take (i + n) xs
take_both i n xs =
    let within : i ≤ i + n = omega arith in
    ap (λ ys. take i xs ++ ys) (sym (drop-take i n xs))
    ∙ ap (λ ys. ys ++ drop i (take (i + n) xs)) (sym (take-take i (i + n) xs within))
    ∙ take-append-drop i (take (i + n) xs)

-- ---- the larger ones at the front

pub passed : (entry : Entry) (xs rest : List Entry) → put_entry_past_larger entry (xs ++ rest) ≡ take (larger_at_front entry.id xs) xs ++ put_entry_past_larger entry (drop (larger_at_front entry.id xs) xs ++ rest)
passed entry [] rest = refl
passed entry (x ∷ xs) rest = grind (arith, passed entry xs rest)

pub stopped : (entry : Entry) (xs rest : List Entry) → larger_at_front entry.id xs < length xs → put_entry_past_larger entry (drop (larger_at_front entry.id xs) xs ++ rest) ≡ entry ∷ drop (larger_at_front entry.id xs) xs ++ rest
stopped entry [] rest h = absurd (omega arith)
stopped entry (x ∷ xs) rest h =
    elim (is_gt (id_cmp x.id entry.id)) as (λ b. is_gt (id_cmp x.id entry.id) ≡ b → cond b (suc (larger_at_front entry.id xs)) 0 < suc (length xs) → put_entry_past_larger entry (drop (cond b (suc (larger_at_front entry.id xs)) 0) (x ∷ xs) ++ rest) ≡ entry ∷ drop (cond b (suc (larger_at_front entry.id xs)) 0) (x ∷ xs) ++ rest) [
      | true ↦ λ t w. stopped entry xs rest (omega arith)
      | false ↦ λ f w. ap (λ b. cond b (x ∷ put_entry_past_larger entry (xs ++ rest)) (entry ∷ x ∷ xs ++ rest)) f
    ] refl h
