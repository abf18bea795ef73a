-- Characters behind unused places: what is replaced by moving what stands behind it, or what stands before it.
use Rattle.rga_doc.proofs.Prelude.{◌≡◌, ℕ, ◌+◌, ◌-◌, ◌≤◌, List, take, drop, length, sym, ap, ◌∙◌, arith, append_assoc, length-take-le, drop-drop, drop-append-le, drop-take, spliced}

-- a splice behind the start
pub splice_behind : {A : Type 0} (xs put : List A) (start lo hi : ℕ) → start + lo ≤ length xs → drop start (spliced xs (start + lo) (start + hi) put) ≡ spliced (drop start xs) lo hi put
splice_behind {A} xs put start lo hi within = grind (arith, take, length, length-take-le, drop, append_assoc, drop-append-le, drop-take, drop-drop)

-- lists that end alike from a place on end alike from each later place on
pub still_behind : {A : Type 0} (xs ys : List A) (m n : ℕ) → m ≤ n → drop m xs ≡ drop m ys → drop n xs ≡ drop n ys
still_behind xs ys m n later h =
    let on : n ≡ m + (n - m) = omega (arith, later) in
    ap (λ i. drop i xs) on ∙ sym (drop-drop (n - m) m xs) ∙ ap (drop (n - m)) h ∙ drop-drop (n - m) m ys ∙ ap (λ i. drop i ys) (sym on)

-- what stands before a splice was moved to another start, and what stands behind it stayed
pub front_moved : {A : Type 0} (xs moved put : List A) (start lo hi to : ℕ) → lo ≤ hi → start + hi ≤ length xs → length moved ≡ length xs → to + (lo + length put) ≡ start + hi
    → take lo (drop to moved) ≡ take lo (drop start xs) → drop (start + hi) moved ≡ drop (start + hi) xs → drop to (spliced moved (to + lo) (start + hi) put) ≡ spliced (drop start xs) lo hi put
front_moved {A} xs moved put start lo hi to up within long fits front behind = grind (arith, length, drop, spliced, splice_behind, drop-drop)
