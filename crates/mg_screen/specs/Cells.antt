-- Characters as cells of a row.
use Rattle.std.specs.Prelude.{◌≡◌, ℕ, ◌+◌, ◌-◌, ◌%◌, ◌≤◌, ◌<◌, List, [], ◌∷◌, ◌++◌, false, length, take, replicate, if◌then◌else◌, nat_lt, nat_le, nat_eq, unwrap_or, Option, Some, None, ◌&&◌}
use Rattle.unicode_width.specs.Width.{char_width}

-- what a character shows, and how many columns it takes
pub record Cell : Type 0 where
  pub shown : List ℕ
  pub width : ℕ

-- the cell that shows this and is so wide
abbrev pub cell : List ℕ → ℕ → Cell
cell shown width = record { shown = shown; width = width }

-- from one tab stop to the next
abbrev pub tab_stop : ℕ
tab_stop = 8

-- the cell of a character that begins at a column
abbrev pub cell_of : ℕ → ℕ → Cell
cell_of column c =
    if nat_eq c 9 then cell (replicate (tab_stop - column % tab_stop) 32) (tab_stop - column % tab_stop)
    else (if nat_lt c 32 then cell (94 ∷ (c + 64) ∷ []) 2
    else (if nat_eq c 127 then cell (94 ∷ 63 ∷ []) 2
    else (if nat_le 128 c && nat_le c 159 then cell (63 ∷ []) 1
    else cell (c ∷ []) (unwrap_or (char_width false c) 0))))

-- the cells of characters of which the first begins at a column
abbrev pub cells_from : ℕ → List ℕ → List Cell
cells_from column [] = []
cells_from column (c ∷ cs) = cell_of column c ∷ cells_from (column + (cell_of column c).width) cs

-- the cells of a line
abbrev pub cells : List ℕ → List Cell
cells line = cells_from 0 line

-- the columns that cells take together
abbrev pub width_of : List Cell → ℕ
width_of [] = 0
width_of (x ∷ xs) = x.width + width_of xs

-- the same, where it is at most this
abbrev pub width_if : List Cell → ℕ → Option ℕ
width_if cells most = if nat_le (width_of cells) most then Some (width_of cells) else None

-- the characters that cells show
abbrev pub shown_cells : List Cell → List ℕ
shown_cells [] = []
shown_cells (x ∷ xs) = x.shown ++ shown_cells xs

-- the longest beginning of at most this width
abbrev pub cells_within : ℕ → List Cell → List Cell
cells_within most [] = []
cells_within most (x ∷ xs) = if nat_le x.width most then x ∷ cells_within (most - x.width) xs else []

-- a beginning of cells of at most this width, and no longer beginning is
pub record IsLongest (most : ℕ) (all begun : List Cell) : Type 0 where
  pub begins : begun ≡ take (length begun) all
  pub fits : width_of begun ≤ most
  pub longest : (k : ℕ) → length begun < k → k ≤ length all → most < width_of (take k all)
