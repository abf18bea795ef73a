-- Cells of a line that is read from its front, and the longest beginning.
use Rattle.std.proofs.Common.{◌≡◌, ℕ, ◌+◌, ◌-◌, ◌≤◌, ◌<◌, List, [], ◌∷◌, ◌++◌, length, drop, refl, sym, ◌∙◌, ap, arith, append_assoc, encode_utf8_all, encode_utf8, replicate, suc, get_or}
use Rattle.std.proofs.lemmas.List.{at_drop_more}
use Rattle.std.proofs.lemmas.Str.{encodes-append}
use Rattle.std.proofs.lemmas.Bool.Decides.{nat_tests}
use Rattle.mg_screen.specs.Cells.{Cell, cell_of, cells_from, width_of, shown_cells, cells_within, IsLongest}

-- one character more, of those that are left
pub times_more : (row : List ℕ) (c k left : ℕ) → k ≡ suc left → (row ++ encode_utf8 c) ++ encode_utf8_all (replicate left c) ≡ row ++ encode_utf8_all (replicate k c)
times_more row c k left e = append_assoc row (encode_utf8 c) (encode_utf8_all (replicate left c)) ∙ ap (λ n. row ++ encode_utf8_all (replicate n c)) (sym e)

pub width-append : (xs ys : List Cell) → width_of (xs ++ ys) ≡ width_of xs + width_of ys
width-append [] ys = omega arith
width-append (x ∷ xs) ys = omega (arith, width-append xs ys)

pub shown-append : (xs ys : List Cell) → shown_cells (xs ++ ys) ≡ shown_cells xs ++ shown_cells ys
shown-append [] ys = refl
shown-append (x ∷ xs) ys = ap (λ t. x.shown ++ t) (shown-append xs ys) ∙ sym (append_assoc x.shown (shown_cells xs) (shown_cells ys))

-- the cells of the rest of a line, of which the first is that of the next character
pub cells_left : (line : List ℕ) (column i d : ℕ) → i < length line → d ≡ get_or line i d
    → cells_from column (drop i line) ≡ cell_of column d ∷ cells_from (column + (cell_of column d).width) (drop (i + 1) line)
cells_left line column i d inside met = at_drop_more (cells_from column) line i d inside ∙ ap (λ c. cells_from column (c ∷ drop (i + 1) line)) (sym met)

-- the longest beginning of the rest, whose first cell has room
pub beginning_on : (line : List ℕ) (most column i d w : ℕ) → i < length line → d ≡ get_or line i d → w ≡ (cell_of column d).width → w ≤ most - column → column ≤ most
    → cells_within (most - column) (cells_from column (drop i line)) ≡ cell_of column d ∷ cells_within (most - (column + w)) (cells_from (column + w) (drop (i + 1) line))
beginning_on line most column i d w inside met is room fits = grind (arith, nat_tests, cells_left line column i d inside met)

-- the longest beginning of the rest, whose first cell has no room
pub beginning_ends : (line : List ℕ) (most column i d w : ℕ) → i < length line → d ≡ get_or line i d → w ≡ (cell_of column d).width → most - column < w
    → cells_within (most - column) (cells_from column (drop i line)) ≡ []
beginning_ends line most column i d w inside met is over = grind (arith, nat_tests, cells_left line column i d inside met)

-- the width of the longest beginning, whose rest begins at a column
pub beginning_width_on : (line : List ℕ) (most column i d w : ℕ) {all : ℕ} → i < length line → d ≡ get_or line i d → w ≡ (cell_of column d).width → w ≤ most - column → column ≤ most
    → column + width_of (cells_within (most - column) (cells_from column (drop i line))) ≡ all
    → (column + w) + width_of (cells_within (most - (column + w)) (cells_from (column + w) (drop (i + 1) line))) ≡ all
beginning_width_on line most column i d w inside met is room fits sofar = omega (arith, ap width_of (beginning_on line most column i d w inside met is room fits), is, sofar)

-- bytes of a row, with one cell more
pub row_on : (row before all more rest old : List ℕ) → before ≡ row ++ encode_utf8_all more → all ≡ more ++ rest
    → row ++ encode_utf8_all all ≡ old → before ++ encode_utf8_all rest ≡ old
row_on row before all more rest old is parts told = grind (arith, append_assoc, encodes-append)

-- all cells have room
whole_on : (most : ℕ) (x : Cell) (cs : List Cell) → (width_of cs ≤ most - x.width → cells_within (most - x.width) cs ≡ cs) → width_of (x ∷ cs) ≤ most → cells_within most (x ∷ cs) ≡ x ∷ cs
whole_on most x cs rest fits = grind (arith, nat_tests)

pub beginning_whole : (most : ℕ) (cs : List Cell) → width_of cs ≤ most → cells_within most cs ≡ cs
beginning_whole most [] fits = refl
beginning_whole most (x ∷ cs) fits = whole_on most x cs (beginning_whole (most - x.width) cs) fits

-- one cell more in the longest beginning, or none
longest_on : (most : ℕ) (x : Cell) (xs : List Cell) → IsLongest (most - x.width) xs (cells_within (most - x.width) xs) → IsLongest most (x ∷ xs) (cells_within most (x ∷ xs))
longest_on most x xs rest = grind arith

pub is_longest : (most : ℕ) (all : List Cell) → IsLongest most all (cells_within most all)
is_longest most [] = record { begins = refl; fits = omega arith; longest = λ k more within. absurd (omega (arith, more, within)) }
is_longest most (x ∷ xs) = longest_on most x xs (is_longest (most - x.width) xs)
