-- How large a screen may be.
use Rattle.std.specs.Prelude.{ℕ}

-- one window of one text row, its mode line and the echo line
abbrev pub least_rows : ℕ
least_rows = 3

abbrev pub most_rows : ℕ
most_rows = 200

abbrev pub least_columns : ℕ
least_columns = 20

abbrev pub most_columns : ℕ
most_columns = 500

-- the text rows of a window that is split: one for each half, and one that becomes the upper half's mode line
abbrev pub least_split_height : ℕ
least_split_height = 3
