-- The cursor, and the frame that it stands in.
use Rattle.std.proofs.Common.{◌≡◌, ℕ, zero, suc, ◌+◌, ◌-◌, ◌≤◌, ◌<◌, List, [], ◌∷◌, ◌++◌, length, take, drop, get_or, arith, refl, sym, ◌∙◌, ap, true, Some, slice_get, chars, append_assoc, append-nil, take-take, cond, nat_le, set}
use Rattle.std.proofs.lemmas.List.{drop-drop, take_all, drop_more, get_or_append_left, set_split, set-get_or}
use Rattle.std.proofs.lemmas.List.Sums.{sum_by-take-le}
use Rattle.std.proofs.lemmas.List.Splits.{length-slice_split}
use Rattle.std.proofs.lemmas.Option.{slice_get_within, get_or_from_slice_get}
use Rattle.std.proofs.lemmas.Bool.Decides.{nat_tests}
use Rattle.mg_screen.specs.declared.screen.Position.{Position}
use Rattle.mg_screen.specs.Screen.{Pane, Screen}
use Rattle.mg_screen.specs.Lines.{lines, line_index, column_of, first_line, shows_line}
use Rattle.mg_screen.specs.Cells.{Cell, cell, cell_of, cells, cells_from, width_of, shown_cells}
use Rattle.mg_screen.specs.Rows.{text_row, filled_row}
use Rattle.mg_screen.specs.Frame.{first_row, text_rows, pane_rows, frame_rows, mode_text}
use Rattle.mg_screen.specs.Cursor.{row_cells, column_behind, place_line, place_column, pane_cursor, rows_above, cursor, echo_cursor, ShowsAt}
use Rattle.mg_screen.proofs.CellLaws.{is_longest, shown-append}
use Rattle.mg_screen.proofs.ScreenLaws.{length-text_rows, length-pane_rows, length-rows_by, window_within, row_at}

-- cells up to one of them
pub cells_taken : (column : ℕ) (line : List ℕ) (k : ℕ) → cells_from column (take k line) ≡ take k (cells_from column line)
cells_taken column line zero = refl
cells_taken column [] (suc k) = refl
cells_taken column (x ∷ xs) (suc k) = ap (λ t. cell_of column x ∷ t) (cells_taken (column + (cell_of column x).width) xs k)

pub width_of-take : (cs : List Cell) (k : ℕ) → width_of (take k cs) ≤ width_of cs
width_of-take cs zero = omega arith
width_of-take [] (suc k) = omega arith
width_of-take (x ∷ cs) (suc k) = omega (arith, width_of-take cs k)

pub split_cells : (cs : List Cell) (k : ℕ) (x : Cell) → slice_get cs k ≡ Some x → cs ≡ take k cs ++ x ∷ drop (suc k) cs
split_cells cs k x is =
    sym (set-get_or cs k x) ∙ ap (λ (y : Cell). set cs k y) (get_or_from_slice_get cs k x x is) ∙ set_split cs k x (slice_get_within cs k x is)

-- the row of a line shows a beginning of its cells, and a dollar sign where that is not all
row_begins : (columns : ℕ) (line : List ℕ) → row_cells columns line ≡ take (length (row_cells columns line)) (cells line)
row_begins columns line = grind (arith, nat_tests, (is_longest (columns - 1) (cells line)).begins, take_all)

row_shows : (columns : ℕ) (line : List ℕ) → (rest : List ℕ) × (text_row columns line ≡ shown_cells (row_cells columns line) ++ rest)
row_shows columns line = (cond (nat_le (width_of (cells line)) columns) [] (36 ∷ []), grind (arith, nat_tests, append-nil (shown_cells (cells line))))

column_at : (columns : ℕ) (line : List ℕ) (k : ℕ) (x : Cell) → slice_get (row_cells columns line) k ≡ Some x → width_of (take k (row_cells columns line)) < columns
    → row_cells columns line ≡ take (length (row_cells columns line)) (cells line) → column_behind columns line k ≡ width_of (take k (row_cells columns line))
column_at columns line k x is inside begins =
    grind (arith, nat_tests, slice_get_within (row_cells columns line) k x is, cells_taken 0 line k, take-take k (length (row_cells columns line)) (cells line), width_of-take (row_cells columns line) k)

row_shows_cell : (columns : ℕ) (line : List ℕ) (k : ℕ) (x : Cell) → slice_get (row_cells columns line) k ≡ Some x → width_of (take k (row_cells columns line)) < columns
    → ShowsAt (text_row columns line) (column_behind columns line k) x
row_shows_cell columns line k x is inside =
    let row = row_shows columns line in
    let front = take k (row_cells columns line) in
    let more : List ℕ = shown_cells (drop (suc k) (row_cells columns line)) in
    let parts = ap shown_cells (split_cells (row_cells columns line) k x is) ∙ shown-append front (x ∷ drop (suc k) (row_cells columns line)) in
    let all : (shown_cells front ++ (x.shown ++ more)) ++ row.0 ≡ shown_cells front ++ (x.shown ++ (more ++ row.0)) = simp append_assoc in
    (front, more ++ row.0, sym (column_at columns line k x is inside (row_begins columns line)), row.1 ∙ ap (λ t. t ++ row.0) parts ∙ all)

-- a row that is cut shows its sign behind the cells before a place that it does not show
sign_behind : (columns : ℕ) (line : List ℕ) (k : ℕ) → columns < width_of (cells line) → length (row_cells columns line) ≤ k → row_cells columns line ≡ take (length (row_cells columns line)) (cells line)
    → (column_behind columns line k ≡ width_of (row_cells columns line)) × (text_row columns line ≡ shown_cells (row_cells columns line) ++ 36 ∷ [])
sign_behind columns line k over behind begins =
    grind (
      arith,
      nat_tests,
      (is_longest (columns - 1) (cells line)).fits,
      cells_taken 0 line k,
      take-take (length (row_cells columns line)) k (cells line) behind,
      width_of-take (cells (take k line)) (length (row_cells columns line)),
    )

row_shows_sign : (columns : ℕ) (line : List ℕ) (k : ℕ) → columns < width_of (cells line) → length (row_cells columns line) ≤ k
    → ShowsAt (text_row columns line) (column_behind columns line k) (cell (36 ∷ []) 1)
row_shows_sign columns line k over behind =
    let sign = sign_behind columns line k over behind (row_begins columns line) in
    (row_cells columns line, [], sym sign.0, sign.1)

-- the rows of one window
text_row_at : (columns n : ℕ) (ls : List (List ℕ)) (i : ℕ) → i < n → get_or (text_rows columns n ls) i [] ≡ first_row columns (drop i ls)
text_row_at columns zero ls i inside = absurd (omega (arith, inside))
text_row_at columns (suc n) ls zero inside = refl
text_row_at columns (suc n) ls (suc i) inside =
    let next : 1 + i ≡ suc i = omega arith in
    text_row_at columns n (drop 1 ls) i (omega (arith, inside)) ∙ ap (first_row columns) (drop-drop i 1 ls ∙ ap (λ k. drop k ls) next)

-- the line of a place is one of the text
lines_at : (text : List ℕ) (place : ℕ) → drop (line_index text place) (lines text) ≡ place_line text place ∷ drop (line_index text place + 1) (lines text)
lines_at text place = grind (arith, length-slice_split, sum_by-take-le, drop_more)

-- the row of a place in its window
pub plain_row : (columns place : ℕ) (p : Pane) → p.first ≤ line_index p.text place → line_index p.text place < p.first + p.height
    → get_or (pane_rows columns p) (line_index p.text place - p.first) [] ≡ text_row columns (place_line p.text place)
plain_row columns place p from to =
    let i = line_index p.text place - p.first in
    let line : p.first + i ≡ line_index p.text place = omega (arith, from) in
    let long = length-text_rows columns p.height (drop p.first (lines p.text)) in
    get_or_append_left (text_rows columns p.height (drop p.first (lines p.text))) (filled_row columns (chars (mode_text p)) ∷ []) [] i (omega (arith, long, from, to))
    ∙ text_row_at columns p.height (drop p.first (lines p.text)) i (omega (arith, from, to)) ∙ ap (first_row columns) (drop-drop i p.first (lines p.text))
    ∙ ap (λ k. first_row columns (drop k (lines p.text))) line ∙ ap (first_row columns) (lines_at p.text place)

-- what a cursor in a window says
record StandsIn (columns above : ℕ) (p : Pane) (at : Position) : Type 0 where
  pub from : p.first ≤ line_index p.text p.point
  pub to : line_index p.text p.point < p.first + p.height
  pub row : at.row ≡ above + (line_index p.text p.point - p.first)
  pub column : at.column ≡ place_column columns p.text p.point

stands_in : (columns above : ℕ) (p : Pane) (at : Position) → pane_cursor columns above p ≡ Some at → StandsIn columns above p at
stands_in columns above p at is = grind (arith, nat_tests)

cursor_in : (columns : ℕ) (s : Screen) (index : ℕ) (p : Pane) (at : Position) → slice_get s.panes index ≡ Some p → cursor columns s index ≡ Some at
    → StandsIn columns (rows_above index s.panes) p at
cursor_in columns s index p at found is = grind (arith, nat_tests, stands_in)

-- the cursor is in the frame
pub cursor_within : (columns : ℕ) (s : Screen) (index : ℕ) (at : Position) → 0 < columns → cursor columns s index ≡ Some at
    → (at.row < length (frame_rows columns s)) × (at.column < columns)
cursor_within columns s index at some is = grind (arith, window_within, length-pane_rows, nat_tests)

pub echo_within : (columns : ℕ) (s : Screen) → 0 < columns → ((echo_cursor columns s).row + 1 ≡ length (frame_rows columns s)) × ((echo_cursor columns s).column < columns)
echo_within columns s some = grind (arith, length-rows_by (pane_rows columns) columns s (length-pane_rows columns))

-- the row of the cursor is that of point's line
cursor_row : (columns : ℕ) (s : Screen) (index : ℕ) (p : Pane) (at : Position) → slice_get s.panes index ≡ Some p → StandsIn columns (rows_above index s.panes) p at
    → get_or (frame_rows columns s) at.row [] ≡ text_row columns (place_line p.text p.point)
cursor_row columns s index p at found stands =
    ap (λ k. get_or (frame_rows columns s) k []) stands.row
    ∙ row_at (pane_rows columns) columns s index (line_index p.text p.point - p.first) p (length-pane_rows columns) found (omega (arith, stands.from, stands.to))
    ∙ plain_row columns p.point p stands.from stands.to

pub cursor_on_cell : (columns : ℕ) (s : Screen) (index : ℕ) (p : Pane) (at : Position) (x : Cell) → slice_get s.panes index ≡ Some p → cursor columns s index ≡ Some at
    → slice_get (row_cells columns (place_line p.text p.point)) (column_of p.text p.point) ≡ Some x
    → width_of (take (column_of p.text p.point) (row_cells columns (place_line p.text p.point))) < columns
    → ShowsAt (get_or (frame_rows columns s) at.row []) at.column x
cursor_on_cell columns s index p at x found is cell inside = grind (arith, cursor_in, row_shows_cell, cursor_row)

pub cursor_on_sign : (columns : ℕ) (s : Screen) (index : ℕ) (p : Pane) (at : Position) → slice_get s.panes index ≡ Some p → cursor columns s index ≡ Some at
    → columns < width_of (cells (place_line p.text p.point)) → length (row_cells columns (place_line p.text p.point)) ≤ column_of p.text p.point
    → ShowsAt (get_or (frame_rows columns s) at.row []) at.column (cell (36 ∷ []) 1)
cursor_on_sign columns s index p at found is over behind =
    let stands = cursor_in columns s index p at found is in
    let shows = row_shows_sign columns (place_line p.text p.point) (column_of p.text p.point) over behind in
    (shows.0, shows.1, shows.2 ∙ sym stands.column, cursor_row columns s index p at found stands ∙ shows.3)

-- a window shows the line of point from its first line on
pub placed_shows : (text : List ℕ) (point first height : ℕ) → 0 < height → shows_line (first_line text point first height) height (line_index text point) ≡ true
placed_shows text point first height some = grind (arith, nat_tests)
