-- Rows of cells, and what is left of a line behind some columns.
use Rattle.std.proofs.Common.{◌≡◌, ℕ, ◌+◌, ◌-◌, ◌%◌, ◌≤◌, ◌<◌, List, [], ◌∷◌, ◌++◌, length, take, drop, get_or, replicate, refl, sym, ◌∙◌, ap, arith, append_assoc, append-nil, encode_utf8_all, encode_utf8, is_some, true, false, Option}
use Rattle.std.proofs.lemmas.List.{take_all}
use Rattle.std.proofs.lemmas.Str.{encodes-append}
use Rattle.std.proofs.lemmas.Bool.Decides.{nat_tests}
use Rattle.std.proofs.Math.Nat.{mod-add-mod, mod-mod}
use Rattle.mg_screen.specs.Cells.{Cell, cell_of, cells_from, width_of, width_if, shown_cells, cells_within, tab_stop}
use Rattle.mg_screen.specs.Rows.{row_of}
use Rattle.mg_screen.specs.Sideways.{cells_behind, row_end, rest_cells}
use Rattle.mg_screen.proofs.CellLaws.{beginning_whole, is_longest}

-- a row that has room for all cells, and one that has not
pub row_whole : (n : ℕ) (cs : List Cell) (o : Option ℕ) → o ≡ width_if cs n → is_some o ≡ true → row_of n cs ≡ shown_cells (cells_within n cs)
row_whole n cs o is some = grind (arith, nat_tests, beginning_whole n cs)

pub row_cut : (n less : ℕ) (cs : List Cell) (o : Option ℕ) (old mid new : List ℕ) → o ≡ width_if cs n → is_some o ≡ false → less ≡ n - 1
    → mid ≡ old ++ encode_utf8_all (shown_cells (cells_within less cs)) → new ≡ mid ++ encode_utf8 36 → new ≡ old ++ encode_utf8_all (row_of n cs)
row_cut n less cs o old mid new is none one was cut = grind (arith, nat_tests, encodes-append, append_assoc, append-nil)

-- the first cell of a row that has room for more
pub row-cons : (n : ℕ) (x : Cell) (cs : List Cell) → x.width < n → row_of n (x ∷ cs) ≡ x.shown ++ row_of (n - x.width) cs
row-cons n x cs few = grind (arith, nat_tests, append_assoc x.shown (shown_cells (cells_within (n - 1 - x.width) cs)) (36 ∷ []))

pub end-cons : (n : ℕ) (x : Cell) (cs : List Cell) → x.width < n → row_end n (x ∷ cs) ≡ x.width + row_end (n - x.width) cs
end-cons n x cs few = grind (arith, nat_tests)

pub row_end_within : (columns : ℕ) (cs : List Cell) → row_end columns cs ≤ columns
row_end_within columns cs = grind (arith, nat_tests, (is_longest (columns - 1) cs).fits)

-- the row of what is left of a line: the blanks, and the row of the rest
pub row-rest : (n b column : ℕ) (line : List ℕ) → b < n → row_of n (rest_cells b column line) ≡ replicate b 32 ++ row_of (n - b) (cells_from column line)
row-rest n b column line few = grind (arith, nat_tests, row-cons)

-- a row with the sign and the blanks in front
pub sideways_made : (r0 r1 r2 r3 : List ℕ) (n b column room : ℕ) (line : List ℕ) (cs : List Cell) → r0 ≡ [] → r1 ≡ r0 ++ encode_utf8 36 → r2 ≡ r1 ++ encode_utf8_all (replicate b 32)
    → r3 ≡ r2 ++ encode_utf8_all (row_of room (cells_from column line)) → rest_cells b column line ≡ cs → b < n → room ≡ n - b → r3 ≡ encode_utf8_all (36 ∷ row_of n cs)
sideways_made r0 r1 r2 r3 n b column room line cs empty sign first more rest few is = grind (arith, row-rest, encodes-append, append_assoc)

-- cells of characters depend on their column by the tab stops alone
pub cells_same : (a b : ℕ) (line : List ℕ) → a % tab_stop ≡ b % tab_stop → cells_from a line ≡ cells_from b line
cells_same a b [] same = refl
cells_same a b (c ∷ cs) same =
    let first : cell_of a c ≡ cell_of b c = rw same refl in
    let w = (cell_of a c).width in
    let on : (a + w) % tab_stop ≡ (b + w) % tab_stop = sym (mod-add-mod a tab_stop w) ∙ ap (λ k. (k + w) % tab_stop) same ∙ mod-add-mod b tab_stop w in
    ap (λ t. cell_of a c ∷ t) (cells_same (a + w) (b + w) cs on) ∙ ap (λ (x : Cell). x ∷ cells_from (b + x.width) cs) first

-- a cell that begins behind the columns is left whole
pub whole_left : (line : List ℕ) (column skip : ℕ) → column ≡ skip → 0 < length line → skip - column < width_of (cells_from column (take 1 line))
    → cells_from (column % tab_stop) line ≡ cells_behind (skip - column) (cells_from column line)
whole_left line column skip is some to = grind (arith, cells_same, mod-mod, nat_tests)

-- a cell that begins within the columns is left as blanks
pub part_left : (line : List ℕ) (column skip w d : ℕ) → column < skip → 0 < length line → skip - column < width_of (cells_from column (take 1 line))
    → d ≡ get_or line 0 d → w ≡ (cell_of column d).width
    → rest_cells (w - (skip - column)) (column % tab_stop + w) (take (length line - 1) (drop 1 line)) ≡ cells_behind (skip - column) (cells_from column line)
part_left line column skip w d from some to met is = grind (arith, take_all, cells_same, mod-add-mod, nat_tests)
