-- Rows of the screen.
use Rattle.std.specs.Prelude.{ℕ, ◌-◌, List, [], ◌∷◌, ◌++◌, replicate, if◌then◌else◌, nat_le}
use Rattle.mg_screen.specs.Cells.{Cell, cells, width_of, shown_cells, cells_within}

-- a row of cells: of all where they are not too wide, else of those that leave room for a dollar sign
abbrev pub row_of : ℕ → List Cell → List ℕ
row_of columns cs =
    if nat_le (width_of cs) columns then shown_cells cs else shown_cells (cells_within (columns - 1) cs) ++ 36 ∷ []

-- a line of a text
abbrev pub text_row : ℕ → List ℕ → List ℕ
text_row columns line = row_of columns (cells line)

-- as much of a text as has room
abbrev pub cut_row : ℕ → List ℕ → List ℕ
cut_row columns text = shown_cells (cells_within columns (cells text))

-- the same, filled with hyphens where there is room left behind the whole of it
abbrev pub filled_row : ℕ → List ℕ → List ℕ
filled_row columns text = cut_row columns text ++ replicate (columns - width_of (cells text)) 45
