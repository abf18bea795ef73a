-- Where the cursor stands in a frame. Rows and columns count from 0.
use Rattle.std.specs.Prelude.{◌≡◌, ℕ, ◌+◌, ◌-◌, Bool, List, [], ◌++◌, Option, Some, None, min, take, get_or, slice_get, sum_by, chars, if◌then◌else◌, nat_le}
use Rattle.std.specs.Option.{option_and_then}
use Rattle.mg_screen.specs.declared.screen.Position.{Position}
use Rattle.mg_screen.specs.Screen.{Pane, Screen}
use Rattle.mg_screen.specs.Lines.{lines, line_index, column_of, shows_line}
use Rattle.mg_screen.specs.Cells.{Cell, cells, width_of, shown_cells, cells_within}
use Rattle.mg_screen.specs.Frame.{screen_rows}

abbrev pub position : ℕ → ℕ → Position
position row column = record { row = row; column = column }

-- the cells of a line that its row shows
abbrev pub row_cells : ℕ → List ℕ → List Cell
row_cells columns line =
    if nat_le (width_of (cells line)) columns then cells line else cells_within (columns - 1) (cells line)

-- the greatest column for the cursor in the row of a line: the end of the cells that it shows, or the last one of the screen
abbrev pub last_column : ℕ → List ℕ → ℕ
last_column columns line = min (width_of (row_cells columns line)) (columns - 1)

-- the column of the cursor behind so many characters of a line
abbrev pub column_behind : ℕ → List ℕ → ℕ → ℕ
column_behind columns line count = min (width_of (cells (take count line))) (last_column columns line)

-- the line in which a place stands
abbrev pub place_line : List ℕ → ℕ → List ℕ
place_line text place = get_or (lines text) (line_index text place) []

-- the column of the cursor at a place of a text
abbrev pub place_column : ℕ → List ℕ → ℕ → ℕ
place_column columns text place = column_behind columns (place_line text place) (column_of text place)

-- whether a window shows the line of point
abbrev pub shows_point : Pane → Bool
shows_point p = shows_line p.first p.height (line_index p.text p.point)

-- the cursor of a window that stands below so many rows, where it shows the line of point
abbrev pub pane_cursor : ℕ → ℕ → Pane → Option Position
pane_cursor columns above p =
    if shows_point p then Some (position (above + (line_index p.text p.point - p.first)) (place_column columns p.text p.point)) else None

-- the rows of the windows above the one at an index
abbrev pub rows_above : ℕ → List Pane → ℕ
rows_above index ps = sum_by (λ p. p.height + 1) (take index ps)

-- the cursor in the window at an index, at its point
abbrev pub cursor : ℕ → Screen → ℕ → Option Position
cursor columns s index = option_and_then (pane_cursor columns (rows_above index s.panes)) (slice_get s.panes index)

-- the column of the cursor behind a text in the echo line
abbrev pub echo_column : ℕ → List ℕ → ℕ
echo_column columns text = min (width_of (cells_within columns (cells text))) (columns - 1)

-- the cursor behind what the echo line says
abbrev pub echo_cursor : ℕ → Screen → Position
echo_cursor columns s = position (screen_rows s - 1) (echo_column columns (chars s.echo))

-- a row shows a cell behind so many columns
abbrev pub ShowsAt : List ℕ → ℕ → Cell → Type 0
ShowsAt row column x =
    (front : List Cell) × (rest : List ℕ) × (width_of front ≡ column) × (row ≡ shown_cells front ++ (x.shown ++ rest))
