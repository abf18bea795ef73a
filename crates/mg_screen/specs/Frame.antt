-- The rows of the whole screen.
use Rattle.std.specs.Prelude.{ℕ, Bool, ◌+◌, List, [], ◌∷◌, ◌++◌, drop, codes, chars, sum_by, if◌then◌else◌, suc, zero}
use Rattle.std.specs.Fmt.{decimal}
use Rattle.std.specs.List.{flat_map}
use Rattle.mg_screen.specs.Screen.{Pane, Screen}
use Rattle.mg_screen.specs.Lines.{lines, line_index, column_of}
use Rattle.mg_screen.specs.Rows.{text_row, filled_row, cut_row}

-- the row of the first of some lines: an empty one where there is none
abbrev pub first_row : ℕ → List (List ℕ) → List ℕ
first_row columns [] = []
first_row columns (l ∷ ls) = text_row columns l

-- so many rows, each with the next line
abbrev pub text_rows : ℕ → ℕ → List (List ℕ) → List (List ℕ)
text_rows columns zero ls = []
text_rows columns (suc n) ls = first_row columns ls ∷ text_rows columns n (drop 1 ls)

-- whether there are changes that are not saved
abbrev pub changed_mark : Bool → List ℕ
changed_mark changed = if changed then codes "-**-" else codes "----"

-- a mode line of these parts
abbrev pub mode_line : List ℕ → List ℕ → ℕ → ℕ → ℕ → List ℕ
mode_line mark name line column waiting =
    mark ++ (codes "Mg: " ++ (name ++ (codes " (fundamental) L" ++ (decimal line ++ (codes " C" ++ (decimal column ++ (codes " W" ++ decimal waiting)))))))

-- what the mode line says, as UTF-8: lines count from 1 there
abbrev pub mode_text : Pane → List ℕ
mode_text p =
    mode_line (changed_mark p.changed) p.name (line_index p.text p.point + 1) (column_of p.text p.point) p.waiting

-- the rows of one window
abbrev pub pane_rows : ℕ → Pane → List (List ℕ)
pane_rows columns p =
    text_rows columns p.height (drop p.first (lines p.text)) ++ filled_row columns (chars (mode_text p)) ∷ []

-- the rows of the screen: those of its windows, each of which has these, and the echo line
abbrev pub rows_by : (Pane → List (List ℕ)) → ℕ → Screen → List (List ℕ)
rows_by rows columns s = flat_map rows s.panes ++ cut_row columns (chars s.echo) ∷ []

abbrev pub frame_rows : ℕ → Screen → List (List ℕ)
frame_rows columns s = rows_by (pane_rows columns) columns s

-- how many rows the screen has
abbrev pub screen_rows : Screen → ℕ
screen_rows s = sum_by (λ p. p.height + 1) s.panes + 1
