-- The cursor at point and other places, in the frame in which each window shows point.
use Rattle.std.proofs.Common.{◌≡◌, ℕ, suc, ◌+◌, ◌-◌, ◌/◌, ◌≤◌, ◌<◌, List, [], ◌∷◌, ◌++◌, length, arith, refl, ap, subst, Some, None, slice_get, chars, ◌∙◌}
use Rattle.std.specs.List.{All, flat_map}
use Rattle.std.proofs.lemmas.Option.{slice_get_within, get_or_from_slice_get}
use Rattle.std.proofs.lemmas.Bool.Decides.{nat_tests}
use Rattle.mg_screen.specs.declared.screen.Position.{Position}
use Rattle.mg_screen.specs.Size.{least_columns}
use Rattle.mg_screen.specs.Screen.{Pane, Screen}
use Rattle.mg_screen.specs.Lines.{line_index, column_of}
use Rattle.mg_screen.specs.Cells.{cells}
use Rattle.mg_screen.specs.Rows.{cut_row}
use Rattle.mg_screen.specs.Frame.{pane_rows, frame_rows}
use Rattle.mg_screen.specs.Cursor.{place_line, rows_above, cursor, column_behind}
use Rattle.mg_screen.specs.Sideways.{width_before, left_of, cells_right, column_beyond, point_row, moved_rows, pane_rows_at_point, rows_at_point, cursor_at_point, row_end, column_before, shown_column, place_shown, pane_cell, cell_of_place, IsNear}
use Rattle.mg_screen.proofs.CellLaws.{is_longest}
use Rattle.mg_screen.proofs.ScreenLaws.{length-pane_rows_at_point, window_within}
use Rattle.mg_screen.proofs.CursorLaws.{width_of-take, cells_taken}
use Rattle.mg_screen.proofs.SidewaysLaws.{row_end_within}

-- ---- point before the last column

near_pane : (columns : ℕ) (p : Pane) → IsNear columns p → column_beyond columns p ≡ None
near_pane columns p near = grind (arith, nat_tests)

near_panes : (columns : ℕ) (ps : List Pane) → All (IsNear columns) ps → flat_map (pane_rows_at_point columns) ps ≡ flat_map (pane_rows columns) ps
near_panes columns [] near = refl
near_panes columns (p ∷ ps) near =
    let rest = near_panes columns ps (λ k d inside. near (suc k) d (omega (arith, inside))) in
    ap (λ o. moved_rows columns p o ++ flat_map (pane_rows_at_point columns) ps) (near_pane columns p (near 0 p (omega arith))) ∙ ap (λ rs. pane_rows columns p ++ rs) rest

pub near_rows : (columns : ℕ) (s : Screen) → All (IsNear columns) s.panes → rows_at_point columns s ≡ frame_rows columns s
near_rows columns s near = ap (λ rs. rs ++ cut_row columns (chars s.echo) ∷ []) (near_panes columns s.panes near)

plain_cursor : (columns index : ℕ) (s : Screen) → ((p : Pane) → slice_get s.panes index ≡ Some p → column_beyond columns p ≡ None) → cursor_at_point columns s index ≡ cursor columns s index
plain_cursor columns index s near = grind arith

pub near_cursor : (columns index : ℕ) (s : Screen) → All (IsNear columns) s.panes → cursor_at_point columns s index ≡ cursor columns s index
near_cursor columns index s near =
    plain_cursor columns index s
    (λ p found. near_pane columns p (subst (IsNear columns) (get_or_from_slice_get s.panes index p p found) (near index p (slice_get_within s.panes index p found))))

-- ---- the middle half

pub middle_half : (columns column : ℕ) → least_columns ≤ columns → columns ≤ column + 1
    → (columns / 4 ≤ column - left_of columns column) × (column - left_of columns column + 1 < columns) × (left_of columns column < column)
middle_half columns column wide beyond = grind arith

-- what the column of point says where it is beyond
pub record StandsBeyond (columns : ℕ) (p : Pane) (column : ℕ) : Type 0 where
  pub is : column ≡ width_before (column_of p.text p.point) (place_line p.text p.point)
  pub beyond : columns ≤ column + 1
  pub from : p.first ≤ line_index p.text p.point
  pub to : point_row p < p.height

pub stands_beyond : (columns : ℕ) (p : Pane) (column : ℕ) → column_beyond columns p ≡ Some column → StandsBeyond columns p column
stands_beyond columns p column is = grind (arith, nat_tests)

-- ---- the cursor is in the frame

pub cursor_at_point_within : (columns index : ℕ) (s : Screen) (at : Position) → least_columns ≤ columns → cursor_at_point columns s index ≡ Some at
    → (at.row < length (rows_at_point columns s)) × (at.column < columns)
cursor_at_point_within columns index s at wide is =
    by_middle (λ p. window_within (pane_rows_at_point columns) columns s index p (length-pane_rows_at_point columns)) (λ column beyond. (middle_half columns column wide beyond).1)
  where
    by_middle : ((p : Pane) → slice_get s.panes index ≡ Some p → rows_above index s.panes + (p.height + 1) + 1 ≤ length (rows_at_point columns s))
        → ((column : ℕ) → columns ≤ column + 1 → column - left_of columns column + 1 < columns) → (at.row < length (rows_at_point columns s)) × (at.column < columns)
    by_middle within middle = grind (arith, nat_tests)

-- ---- a place that is shown

-- the column of a place in a row that begins further right
pub right_is : (columns column beyond k : ℕ) (line : List ℕ) → shown_column columns line column (Some beyond) ≡ Some k
    → (left_of columns beyond < column) × (column - left_of columns beyond ≡ k) × (k < 1 + row_end (columns - 1) (cells_right columns beyond line))
right_is columns column beyond k line is = grind (arith, nat_tests)

-- what the cell of a place in a window says
pub record StandsAt (columns above place : ℕ) (p : Pane) (at : Position) : Type 0 where
  pub from : p.first ≤ line_index p.text place
  pub to : line_index p.text place < p.first + p.height
  pub row : at.row ≡ above + (line_index p.text place - p.first)
  pub column : place_shown columns p place ≡ Some at.column

stands_at : (columns above place : ℕ) (p : Pane) (at : Position) → pane_cell columns above place p ≡ Some at → StandsAt columns above place p at
stands_at columns above place p at is = grind (arith, nat_tests)

pub cell_in : (columns : ℕ) (s : Screen) (index place : ℕ) (p : Pane) (at : Position) → slice_get s.panes index ≡ Some p → cell_of_place columns s index place ≡ Some at
    → StandsAt columns (rows_above index s.panes) place p at
cell_in columns s index place p at found is = grind (arith, stands_at)

pub cell_within : (columns index place : ℕ) (s : Screen) (at : Position) → least_columns ≤ columns → cell_of_place columns s index place ≡ Some at
    → (at.row < length (rows_at_point columns s)) × (at.column < columns)
cell_within columns index place s at wide is =
    let within = λ (p : Pane). window_within (pane_rows_at_point columns) columns s index p (length-pane_rows_at_point columns) in
    grind (arith, nat_tests, row_end_within, within)

-- ---- the cell of point is that of the cursor

-- a plain row that shows a place behind so many characters
plain_column : (columns count k : ℕ) (line : List ℕ) → column_before (row_end columns (cells line)) (width_before count line) ≡ Some k → column_behind columns line count ≡ k
plain_column columns count k line is = grind (arith, nat_tests, cells_taken 0 line count, width_of-take (cells line) count, (is_longest (columns - 1) (cells line)).fits)

pub point_cell : (columns index : ℕ) (s : Screen) (p : Pane) (at : Position) → slice_get s.panes index ≡ Some p → cell_of_place columns s index p.point ≡ Some at
    → cursor_at_point columns s index ≡ Some at
point_cell columns index s p at found is = grind (arith, nat_tests, plain_column)
