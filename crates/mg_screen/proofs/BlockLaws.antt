-- Blocks of a text that have no newline.
use Rattle.std.proofs.Common.{◌≡◌, ℕ, zero, suc, ◌+◌, ◌≤◌, ◌<◌, List, length, take, drop, get_or, arith, ap, sym, ◌∙◌, Bool, false, not, count_by, length-drop}
use Rattle.std.specs.List.{position_or_len}
use Rattle.std.proofs.lemmas.List.{get_or-drop}
use Rattle.std.proofs.lemmas.List.Sums.{suffix_len-take_yes, prefix_len-drop_yes, count_by_more_yes, count_by_more_no}
use Rattle.mg_screen.specs.Lines.{ends_line, column_of}

-- the last character of such a block, and what stands before it
last_clear : (p : ℕ → Bool) (xs : List ℕ) (n : ℕ) → n < length xs → count_by p (take (suc n) xs) ≡ 0 → (count_by p (take n xs) ≡ 0) × (p (get_or xs n 0) ≡ false)
last_clear p xs n inside none = grind (arith, count_by_more_yes p xs n 0, count_by_more_no p xs n 0)

block_less : (text : List ℕ) (a n : ℕ) → a + suc n ≤ length text → count_by ends_line (take (suc n) (drop a text)) ≡ 0
    → (count_by ends_line (take n (drop a text)) ≡ 0) × (ends_line (get_or text (a + n) 0) ≡ false)
block_less text a n within none =
    let last = last_clear ends_line (drop a text) n (omega (arith, length-drop a text, within)) none in
    (last.0, ap ends_line (sym (get_or-drop a text n 0)) ∙ last.1)

before_on : (text : List ℕ) (a n : ℕ) → a + suc n ≤ length text → ends_line (get_or text (a + n) 0) ≡ false → n + column_of text a ≡ column_of text (a + n) → suc n + column_of text a ≡ column_of text (a + suc n)
before_on text a n within clear rest = grind (arith, suffix_len-take_yes (λ c. not (ends_line c)) text (a + suc n) 0)

-- a place behind such a block stands in the line of the place before it
pub clear_before : (text : List ℕ) (a n : ℕ) → a + n ≤ length text → count_by ends_line (take n (drop a text)) ≡ 0 → n + column_of text a ≡ column_of text (a + n)
clear_before text a zero within none = let here : a + 0 ≡ a = omega arith in omega (arith, ap (column_of text) here)
clear_before text a (suc n) within none =
    let less = block_less text a n within none in
    before_on text a n within less.1 (clear_before text a n (omega (arith, within)) less.0)

behind_on : (text : List ℕ) (a n : ℕ) → a + suc n ≤ length text → ends_line (get_or text (a + n) 0) ≡ false
    → (a + n) + position_or_len ends_line (drop (a + n) text) ≡ a + position_or_len ends_line (drop a text)
    → (a + suc n) + position_or_len ends_line (drop (a + suc n) text) ≡ a + position_or_len ends_line (drop a text)
behind_on text a n within clear rest = grind (arith, prefix_len-drop_yes (λ c. not (ends_line c)) text (a + n) 0)

-- the line of both places ends at one place
pub clear_behind : (text : List ℕ) (a n : ℕ) → a + n ≤ length text → count_by ends_line (take n (drop a text)) ≡ 0
    → (a + n) + position_or_len ends_line (drop (a + n) text) ≡ a + position_or_len ends_line (drop a text)
clear_behind text a zero within none = let here : a + 0 ≡ a = omega arith in omega (arith, ap (λ k. position_or_len ends_line (drop k text)) here)
clear_behind text a (suc n) within none =
    let less = block_less text a n within none in
    behind_on text a n within less.1 (clear_behind text a n (omega (arith, within)) less.0)
