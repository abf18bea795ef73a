-- Rows that begin further right, so that they show point, and the cursors in them.
use Rattle.std.specs.Prelude.{◌≡◌, ◌≤◌, ◌<◌, ℕ, ◌+◌, ◌-◌, ◌/◌, ◌%◌, Bool, List, [], ◌∷◌, length, take, slice_set, replicate, Option, Some, None, slice_get, if◌then◌else◌, nat_le, nat_lt, nat_eq, ◌&&◌, ◌||◌}
use Rattle.std.specs.Option.{option_and_then}
use Rattle.mg_screen.specs.declared.screen.Position.{Position}
use Rattle.mg_screen.specs.Screen.{Pane, Screen}
use Rattle.mg_screen.specs.Lines.{line_index, column_of, shows_line}
use Rattle.mg_screen.specs.Cells.{Cell, cell, cells, cells_from, width_of, shown_cells, cells_within}
use Rattle.mg_screen.specs.Rows.{row_of}
use Rattle.mg_screen.specs.Frame.{pane_rows, rows_by}
pub use Rattle.mg_screen.specs.Frame.{frame_rows, screen_rows}
use Rattle.mg_screen.specs.Cursor.{position, place_line, shows_point, pane_cursor, rows_above}

-- the column behind so many characters of a line
abbrev pub width_before : ℕ → List ℕ → ℕ
width_before count line = width_of (cells (take count line))

-- whether a column is behind the last one, or is the last one, in which a line of this width that is cut has its dollar sign
abbrev pub is_beyond : ℕ → ℕ → ℕ → Bool
is_beyond columns width column = nat_le columns column || (nat_eq (column + 1) columns && nat_lt columns width)

-- the column of a line at which its row begins, so that it shows this column in its middle half
abbrev pub left_of : ℕ → ℕ → ℕ
left_of columns column = column - column % (columns / 2) - columns / 4

-- what is left of a cell behind so many of its columns: blanks, where that is not the whole of it
abbrev pub cell_behind : ℕ → Cell → Cell
cell_behind n x = if nat_eq n 0 then x else cell (replicate (x.width - n) 32) (x.width - n)

-- cells behind so many columns
abbrev pub cells_behind : ℕ → List Cell → List Cell
cells_behind n [] = []
cells_behind n (x ∷ xs) = if nat_le x.width n then cells_behind (n - x.width) xs else cell_behind n x ∷ xs

-- the cells of a line behind the dollar sign with which its row begins, so that it shows this column
abbrev pub cells_right : ℕ → ℕ → List ℕ → List Cell
cells_right columns column line = cells_behind (left_of columns column + 1) (cells line)

-- the row of a line that shows this column of it
abbrev pub sideways_row : ℕ → ℕ → List ℕ → List ℕ
sideways_row columns column line = 36 ∷ row_of (columns - 1) (cells_right columns column line)

-- the column behind so many characters of a line, where its plain row has no room for that
abbrev pub line_beyond : ℕ → List ℕ → ℕ → Option ℕ
line_beyond columns line count =
    if is_beyond columns (width_of (cells line)) (width_before count line) then Some (width_before count line) else None

-- the column of point, where the row of its line is to begin further right
abbrev pub column_beyond : ℕ → Pane → Option ℕ
column_beyond columns p =
    if shows_point p then line_beyond columns (place_line p.text p.point) (column_of p.text p.point) else None

-- in which text row of a window point stands
abbrev pub point_row : Pane → ℕ
point_row p = line_index p.text p.point - p.first

-- the rows of a window: as ever, but for the row of point where its column is beyond
abbrev pub moved_rows : ℕ → Pane → Option ℕ → List (List ℕ)
moved_rows columns p None = pane_rows columns p
moved_rows columns p (Some column) =
    slice_set (pane_rows columns p) (point_row p) (sideways_row columns column (place_line p.text p.point))

abbrev pub pane_rows_at_point : ℕ → Pane → List (List ℕ)
pane_rows_at_point columns p = moved_rows columns p (column_beyond columns p)

-- the same, or the plain rows
abbrev pub pane_rows_by : Bool → ℕ → Pane → List (List ℕ)
pane_rows_by at_point columns p = if at_point then pane_rows_at_point columns p else pane_rows columns p

abbrev pub rows_at_point : ℕ → Screen → List (List ℕ)
rows_at_point columns s = rows_by (pane_rows_at_point columns) columns s

-- the cursor of a window that stands below so many rows: as ever, but where the column of point is beyond
abbrev pub moved_cursor : ℕ → ℕ → Pane → Option ℕ → Option Position
moved_cursor columns above p None = pane_cursor columns above p
moved_cursor columns above p (Some column) = Some (position (above + point_row p) (column - left_of columns column))

abbrev pub pane_cursor_at_point : ℕ → ℕ → Pane → Option Position
pane_cursor_at_point columns above p = moved_cursor columns above p (column_beyond columns p)

-- the cursor in the window at an index, at its point
abbrev pub cursor_at_point : ℕ → Screen → ℕ → Option Position
cursor_at_point columns s index = option_and_then (pane_cursor_at_point columns (rows_above index s.panes)) (slice_get s.panes index)

-- up to which column a row of cells shows what it is of: to the end of the screen, or to its dollar sign
abbrev pub row_end : ℕ → List Cell → ℕ
row_end columns cs = if nat_le (width_of cs) columns then columns else width_of (cells_within (columns - 1) cs)

-- a column, where it is before an end
abbrev pub column_before : ℕ → ℕ → Option ℕ
column_before end column = if nat_lt column end then Some column else None

-- where a row shows a column of its line: a plain row, or one that begins further right, so that it shows another column
abbrev pub shown_column : ℕ → List ℕ → ℕ → Option ℕ → Option ℕ
shown_column columns line column None = column_before (row_end columns (cells line)) column
shown_column columns line column (Some beyond) =
    if nat_lt (left_of columns beyond) column
    then column_before (1 + row_end (columns - 1) (cells_right columns beyond line)) (column - left_of columns beyond)
    else None

-- the column of point in the line of a place, where its row is to begin further right
abbrev pub beyond_with : ℕ → Pane → ℕ → Option ℕ
beyond_with columns p place = if nat_eq (line_index p.text place) (line_index p.text p.point) then column_beyond columns p else None

-- the column of the screen that shows a place
abbrev pub place_shown : ℕ → Pane → ℕ → Option ℕ
place_shown columns p place =
    shown_column columns (place_line p.text place) (width_before (column_of p.text place) (place_line p.text place)) (beyond_with columns p place)

-- the cell in a row and a column, where there is one
abbrev pub cell_at : ℕ → Option ℕ → Option Position
cell_at row None = None
cell_at row (Some column) = Some (position row column)

-- the cell of a place of the text of a window that stands below so many rows, where it shows that
abbrev pub pane_cell : ℕ → ℕ → ℕ → Pane → Option Position
pane_cell columns above place p =
    if nat_le place (length p.text) && shows_line p.first p.height (line_index p.text place)
    then cell_at (above + (line_index p.text place - p.first)) (place_shown columns p place)
    else None

-- the cell of a place of the text of the window at an index
abbrev pub cell_of_place : ℕ → Screen → ℕ → ℕ → Option Position
cell_of_place columns s index place = option_and_then (pane_cell columns (rows_above index s.panes) place) (slice_get s.panes index)

-- a row shows cells that take at most so many columns together
abbrev pub IsWithin : ℕ → List ℕ → Type 0
IsWithin columns row = (cs : List Cell) × (row ≡ shown_cells cs) × (width_of cs ≤ columns)

-- the column of point is before the last one
abbrev pub IsNear : ℕ → Pane → Type 0
IsNear columns p = width_before (column_of p.text p.point) (place_line p.text p.point) + 1 < columns

-- what is left of a line: so many blanks in place of a cell that is cut, and the cells of characters from a column on
abbrev pub rest_cells : ℕ → ℕ → List ℕ → List Cell
rest_cells blanks column line =
    if nat_eq blanks 0 then cells_from column line else cell (replicate blanks 32) blanks ∷ cells_from column line
