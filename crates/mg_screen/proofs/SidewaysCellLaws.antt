-- The cell of a place, and the row that shows it.
use Rattle.std.proofs.Common.{◌≡◌, ℕ, zero, suc, ◌+◌, ◌-◌, ◌≤◌, ◌<◌, List, [], ◌∷◌, ◌++◌, length, take, drop, get_or, arith, refl, sym, ◌∙◌, ap, Bool, true, false, cond, nat_le, nat_eq, Option, Some, None, slice_get, chars, append_assoc, replicate, ◌≢◌}
use Rattle.std.specs.List.{All, flat_map}
use Rattle.std.proofs.lemmas.Bool.Decides.{nat_tests}
use Rattle.std.proofs.lemmas.List.{get_or-set_same, get_or-set_other}
use Rattle.std.proofs.lemmas.List.Elements.{All-nil, All-cons, All-append, All-set}
use Rattle.mg_screen.specs.declared.screen.Position.{Position}
use Rattle.mg_screen.specs.Screen.{Pane, Screen}
use Rattle.mg_screen.specs.Lines.{lines, line_index, column_of}
use Rattle.mg_screen.specs.Cells.{Cell, cell, cells, width_of, shown_cells, cells_within}
use Rattle.mg_screen.specs.Rows.{row_of, text_row, filled_row, cut_row}
use Rattle.mg_screen.specs.Frame.{first_row, text_rows, mode_text, pane_rows}
use Rattle.mg_screen.specs.Cursor.{place_line, rows_above, ShowsAt}
use Rattle.mg_screen.specs.Sideways.{width_before, left_of, cells_behind, cells_right, sideways_row, column_beyond, point_row, moved_rows, pane_rows_at_point, rows_at_point, row_end, column_before, shown_column, beyond_with, cell_of_place, IsWithin}
use Rattle.mg_screen.proofs.CellLaws.{is_longest, shown-append, width-append}
use Rattle.mg_screen.proofs.ScreenLaws.{length-pane_rows, length-pane_rows_at_point, row_at}
use Rattle.mg_screen.proofs.CursorLaws.{cells_taken, width_of-take, split_cells, plain_row}
use Rattle.mg_screen.proofs.SidewaysLaws.{row-cons, end-cons, row_end_within}
use Rattle.mg_screen.proofs.SidewaysCursorLaws.{StandsAt, StandsBeyond, cell_in, stands_beyond, right_is}

-- ---- rows of cells

abbrev sign : Cell
sign = cell (36 ∷ []) 1

row_has_room : (n : ℕ) (cs : List Cell) → 0 < n → IsWithin n (row_of n cs)
row_has_room n cs some =
    let front : List Cell = cells_within (n - 1) cs in
    let fits = (is_longest (n - 1) cs).fits in
    (cond (nat_le (width_of cs) n) cs (front ++ sign ∷ []), grind (arith, nat_tests, shown-append front (sign ∷ [])), grind (arith, nat_tests, width-append front (sign ∷ []), fits))

right_has_room : (columns column : ℕ) (line : List ℕ) → 1 < columns → IsWithin columns (sideways_row columns column line)
right_has_room columns column line some =
    let rest = row_has_room (columns - 1) (cells_right columns column line) (omega (arith, some)) in
    (sign ∷ rest.0, ap (λ r. 36 ∷ r) rest.1, omega (arith, rest.2, some))

-- ---- each row has room

first_has_room : (columns : ℕ) (ls : List (List ℕ)) → 0 < columns → IsWithin columns (first_row columns ls)
first_has_room columns [] some = ([], refl, omega arith)
first_has_room columns (l ∷ ls) some = row_has_room columns (cells l) some

texts_have_room : (columns n : ℕ) (ls : List (List ℕ)) → 0 < columns → All (IsWithin columns) (text_rows columns n ls)
texts_have_room columns zero ls some = All-nil (IsWithin columns)
texts_have_room columns (suc n) ls some =
    All-cons (IsWithin columns) (first_row columns ls) (text_rows columns n (drop 1 ls)) (first_has_room columns ls some) (texts_have_room columns n (drop 1 ls) some)

cut_has_room : (columns : ℕ) (text : List ℕ) → IsWithin columns (cut_row columns text)
cut_has_room columns text = (cells_within columns (cells text), refl, (is_longest columns (cells text)).fits)

abbrev hyphen : Cell
hyphen = cell (45 ∷ []) 1

shown-hyphens : (n : ℕ) → shown_cells (replicate n hyphen) ≡ replicate n 45
shown-hyphens zero = refl
shown-hyphens (suc n) = ap (λ t. 45 ∷ t) (shown-hyphens n)

width-hyphens : (n : ℕ) → width_of (replicate n hyphen) ≡ n
width-hyphens zero = refl
width-hyphens (suc n) = let rest = width-hyphens n in omega (arith, rest)

filled_has_room : (columns : ℕ) (text : List ℕ) → IsWithin columns (filled_row columns text)
filled_has_room columns text =
    let front : List Cell = cells_within columns (cells text) in
    let n : ℕ = columns - width_of (cells text) in
    let begun = is_longest columns (cells text) in
    let less : width_of (cells_within columns (cells text)) ≤ width_of (cells text) =
    omega (arith, ap width_of begun.begins, width_of-take (cells text) (length (cells_within columns (cells text)))) in
    let width = width-append (cells_within columns (cells text)) (replicate (columns - width_of (cells text)) hyphen) in (
      front ++ replicate n hyphen,
      sym (shown-append (cells_within columns (cells text)) (replicate (columns - width_of (cells text)) hyphen)
          ∙ ap (λ t. cut_row columns text ++ t) (shown-hyphens (columns - width_of (cells text)))),
      omega (arith, width, width-hyphens (columns - width_of (cells text)), begun.fits, less),
    )

pane_has_room : (columns : ℕ) (p : Pane) → 0 < columns → All (IsWithin columns) (pane_rows columns p)
pane_has_room columns p some =
    All-append (IsWithin columns) (text_rows columns p.height (drop p.first (lines p.text))) (filled_row columns (chars (mode_text p)) ∷ [])
    (texts_have_room columns p.height (drop p.first (lines p.text)) some)
    (All-cons (IsWithin columns) (filled_row columns (chars (mode_text p))) [] (filled_has_room columns (chars (mode_text p))) (All-nil (IsWithin columns)))

moved_has_room : (columns : ℕ) (p : Pane) (o : Option ℕ) → 1 < columns → All (IsWithin columns) (moved_rows columns p o)
moved_has_room columns p None some = pane_has_room columns p (omega (arith, some))
moved_has_room columns p (Some column) some =
    All-set (IsWithin columns) (pane_rows columns p) (point_row p) (sideways_row columns column (place_line p.text p.point))
    (right_has_room columns column (place_line p.text p.point) some) (pane_has_room columns p (omega (arith, some)))

panes_have_room : (columns : ℕ) (ps : List Pane) → 1 < columns → All (IsWithin columns) (flat_map (pane_rows_at_point columns) ps)
panes_have_room columns [] some = All-nil (IsWithin columns)
panes_have_room columns (p ∷ ps) some =
    All-append (IsWithin columns) (pane_rows_at_point columns p) (flat_map (pane_rows_at_point columns) ps) (moved_has_room columns p (column_beyond columns p) some)
    (panes_have_room columns ps some)

pub rows_have_room : (columns : ℕ) (s : Screen) → 1 < columns → All (IsWithin columns) (rows_at_point columns s)
rows_have_room columns s some =
    All-append (IsWithin columns) (flat_map (pane_rows_at_point columns) s.panes) (cut_row columns (chars s.echo) ∷ []) (panes_have_room columns s.panes some)
    (All-cons (IsWithin columns) (cut_row columns (chars s.echo)) [] (cut_has_room columns (chars s.echo)) (All-nil (IsWithin columns)))

-- ---- a row shows a cell

first_shows : (n : ℕ) (rest : List Cell) (x : Cell) → 0 < row_end n (x ∷ rest) → (more : List ℕ) × (row_of n (x ∷ rest) ≡ x.shown ++ more)
first_shows n rest x inside =
    let part : List ℕ = shown_cells (cells_within (n - 1 - x.width) rest) in
    (cond (nat_le (width_of (x ∷ rest)) n) (shown_cells rest) (part ++ 36 ∷ []), grind (arith, nat_tests, append_assoc x.shown part (36 ∷ [])))

row_of_shows : (n : ℕ) (front rest : List Cell) (x : Cell) → width_of front < row_end n (front ++ x ∷ rest)
    → (more : List ℕ) × (row_of n (front ++ x ∷ rest) ≡ shown_cells front ++ (x.shown ++ more))
row_of_shows n [] rest x inside = first_shows n rest x inside
row_of_shows n (y ∷ front) rest x inside =
    let few : y.width < n = omega (arith, inside, row_end_within n (y ∷ (front ++ x ∷ rest))) in
    let here = row_of_shows (n - y.width) front rest x (omega (arith, inside, end-cons n y (front ++ x ∷ rest) few)) in
    (here.0, row-cons n y (front ++ x ∷ rest) few ∙ ap (λ t. y.shown ++ t) here.1 ∙ sym (append_assoc y.shown (shown_cells front) (x.shown ++ here.0)))

-- the cells behind some columns, parted at a cell that is among them
width_behind : (n : ℕ) (cs : List Cell) → width_of (cells_behind n cs) ≡ width_of cs - n
width_behind n [] = omega arith
width_behind n (x ∷ cs) = grind (arith, nat_tests, width_behind (n - x.width) cs)

behind_splits : (n : ℕ) (front rest : List Cell) (x : Cell) → 0 < x.width → n ≤ width_of front → cells_behind n (front ++ x ∷ rest) ≡ cells_behind n front ++ x ∷ rest
behind_splits n [] rest x some within = grind (arith, nat_tests)
behind_splits n (y ∷ front) rest x some within = grind (arith, nat_tests, behind_splits (n - y.width) front rest x some)

plain_shows : (columns count k : ℕ) (line : List ℕ) (x : Cell) → slice_get (cells line) count ≡ Some x → column_before (row_end columns (cells line)) (width_before count line) ≡ Some k
    → ShowsAt (text_row columns line) k x
plain_shows columns count k line x here shown =
    let parts = split_cells (cells line) count x here in
    let at : (width_before count line ≡ k) × (k < row_end columns (cells line)) = grind (arith, nat_tests) in
    let width : width_of (take count (cells line)) ≡ width_before count line = ap width_of (sym (cells_taken 0 line count)) in
    let row = row_of_shows columns (take count (cells line)) (drop (suc count) (cells line)) x (omega (arith, at.0, at.1, width, ap (row_end columns) parts)) in
    (take count (cells line), row.0, width ∙ at.0, ap (row_of columns) parts ∙ row.1)

right_shows : (columns count k beyond : ℕ) (line : List ℕ) (x : Cell) → slice_get (cells line) count ≡ Some x → 0 < x.width
    → shown_column columns line (width_before count line) (Some beyond) ≡ Some k → ShowsAt (sideways_row columns beyond line) k x
right_shows columns count k beyond line x here some shown =
    let at = right_is columns (width_before count line) beyond k line shown in
    let front = cells_behind (left_of columns beyond + 1) (take count (cells line)) in
    let width : width_of (take count (cells line)) ≡ width_before count line = ap width_of (sym (cells_taken 0 line count)) in
    let wide = width_behind (left_of columns beyond + 1) (take count (cells line)) in
    let parts : cells_right columns beyond line ≡ front ++ x ∷ drop (suc count) (cells line) =
    ap (cells_behind (left_of columns beyond + 1)) (split_cells (cells line) count x here)
    ∙ behind_splits (left_of columns beyond + 1) (take count (cells line)) (drop (suc count) (cells line)) x some (omega (arith, at.0, width)) in
    let row = row_of_shows (columns - 1) front (drop (suc count) (cells line)) x (omega (arith, at.0, at.1, at.2, width, wide, ap (row_end (columns - 1)) parts)) in
    (sign ∷ front, row.0, omega (arith, at.0, at.1, width, wide), ap (λ r. 36 ∷ r) (ap (row_of (columns - 1)) parts ∙ row.1))

-- ---- the row of a place

-- in the frame, where it is a row of its window with or without that of point moved
row_of_cell : (columns : ℕ) (s : Screen) (index place : ℕ) (p : Pane) (at : Position) (o : Option ℕ) → slice_get s.panes index ≡ Some p → StandsAt columns (rows_above index s.panes) place p at
    → column_beyond columns p ≡ o → get_or (rows_at_point columns s) at.row [] ≡ get_or (moved_rows columns p o) (line_index p.text place - p.first) []
row_of_cell columns s index place p at o found stands beyond =
    ap (λ k. get_or (rows_at_point columns s) k []) stands.row
    ∙ row_at (pane_rows_at_point columns) columns s index (line_index p.text place - p.first) p (length-pane_rows_at_point columns) found (omega (arith, stands.from, stands.to))
    ∙ ap (λ o. get_or (moved_rows columns p o) (line_index p.text place - p.first) []) beyond

pub cell_shows : (columns index place : ℕ) (s : Screen) (p : Pane) (at : Position) (x : Cell) → slice_get s.panes index ≡ Some p → cell_of_place columns s index place ≡ Some at
    → slice_get (cells (place_line p.text place)) (column_of p.text place) ≡ Some x → 0 < x.width
    → ShowsAt (get_or (rows_at_point columns s) at.row []) at.column x
cell_shows columns index place s p at x found is here some = by_column (column_beyond columns p) refl (cell_in columns s index place p at found is)
  where
    line : List ℕ
    line = place_line p.text place

    row : ℕ
    row = line_index p.text place - p.first

    plain : beyond_with columns p place ≡ None → StandsAt columns (rows_above index s.panes) place p at → get_or (rows_at_point columns s) at.row [] ≡ get_or (pane_rows columns p) (line_index p.text place - p.first) []
        → ShowsAt (get_or (rows_at_point columns s) at.row []) at.column x
    plain none stands is_row =
        let shown = sym (ap (shown_column columns (place_line p.text place) (width_before (column_of p.text place) (place_line p.text place))) none) ∙ stands.column in
        let shows = plain_shows columns (column_of p.text place) at.column (place_line p.text place) x here shown in
        (shows.0, shows.1, shows.2, is_row ∙ plain_row columns place p stands.from stands.to ∙ shows.3)

    by_column : (o : Option ℕ) → column_beyond columns p ≡ o → StandsAt columns (rows_above index s.panes) place p at → ShowsAt (get_or (rows_at_point columns s) at.row []) at.column x
    by_column None f stands = plain (grind arith) stands (row_of_cell columns s index place p at None found stands f)
    by_column (Some column) f stands = by_line (nat_eq (line_index p.text place) (line_index p.text p.point)) refl
      where
        there : StandsBeyond columns p column
        there = stands_beyond columns p column f

        by_line : (b : Bool) → nat_eq (line_index p.text place) (line_index p.text p.point) ≡ b → ShowsAt (get_or (rows_at_point columns s) at.row []) at.column x
        by_line false e =
            let other : line_index p.text place - p.first ≢ point_row p = grind (arith, nat_tests, e, stands.from, there.from) in
            plain (rw e refl) stands (row_of_cell columns s index place p at (Some column) found stands f
            ∙ get_or-set_other (pane_rows columns p) (point_row p) (line_index p.text place - p.first) (sideways_row columns column (place_line p.text p.point)) [] other)
        by_line true e =
            let same : line_index p.text place ≡ line_index p.text p.point = grind (arith, nat_tests) in
            let with : beyond_with columns p place ≡ Some column = rw e f in
            let shown = sym (ap (shown_column columns (place_line p.text place) (width_before (column_of p.text place) (place_line p.text place))) with) ∙ stands.column in
            let shows = right_shows columns (column_of p.text place) at.column column (place_line p.text place) x here some shown in
            let is_row = row_of_cell columns s index place p at (Some column) found stands f
            ∙ ap (λ n. get_or (moved_rows columns p (Some column)) (n - p.first) []) same
            ∙ get_or-set_same (pane_rows columns p) (point_row p) (sideways_row columns column (place_line p.text p.point)) [] (omega (arith, there.to, length-pane_rows columns p))
            ∙ ap (λ n. sideways_row columns column (get_or (lines p.text) n [])) (sym same) in
            (shows.0, shows.1, shows.2, is_row ∙ shows.3)
