-- The rows of the screen, one after another.
use Rattle.std.proofs.Common.{◌≡◌, ℕ, ◌+◌, ◌<◌, ◌≤◌, List, [], ◌∷◌, ◌++◌, length, drop, take, map, arith, refl, sym, ◌∙◌, ap, ap₂, set, suc, zero, ◌-◌, append_assoc, encode_utf8_all, string_bytes, sum_by, chars, get_or, length-append, length-set, Some, slice_get}
use Rattle.std.specs.List.{flat_map}
use Rattle.std.proofs.lemmas.List.{map-append, take_more, length-map, flat_map_more, get_or_append_left, map-set, set-append_right}
use Rattle.std.proofs.lemmas.List.Concat.{length-flat_map, get_or-flat_map}
use Rattle.std.proofs.lemmas.List.Sums.{sum_by-le-sum_by, sum_by_more_le}
use Rattle.std.proofs.lemmas.Option.{slice_get_within, get_or_from_slice_get}
use Rattle.std.specs.declared.string.String.{String}
use Rattle.std.specs.declared.alloc.Global.{Global}
use Rattle.mg_screen.specs.Screen.{Pane, Screen}
use Rattle.mg_screen.specs.Rows.{cut_row}
use Rattle.mg_screen.specs.Frame.{first_row, text_rows, pane_rows, rows_by, screen_rows}
use Rattle.mg_screen.specs.Cursor.{place_line, rows_above}
use Rattle.mg_screen.specs.Sideways.{column_beyond, point_row, sideways_row, moved_rows, pane_rows_at_point}
use Rattle.mg_screen.specs.Written.{utf8}

-- one row of those of a window
pub text_row_on : (old new before : List (List ℕ)) (columns n left : ℕ) (all : List (List ℕ)) (ls next : List (List ℕ)) (row : List ℕ) → n ≡ suc left
    → row ≡ encode_utf8_all (first_row columns ls) → next ≡ drop 1 ls → new ≡ old ++ row ∷ []
    → old ++ utf8 (text_rows columns n ls) ≡ before ++ utf8 all → new ++ utf8 (text_rows columns left next) ≡ before ++ utf8 all
text_row_on old new before columns n left all ls next row one is_row is_next is told = rw (is, append_assoc, is_row, is_next) (rw one at told)

-- rows of a window, behind those of the windows above
pub pane_on : (rows : Pane → List (List ℕ)) (ps : List Pane) (i : ℕ) (p : Pane) (old new : List (List ℕ)) → i < length ps → p ≡ get_or ps i p → new ≡ old ++ utf8 (rows p)
    → old ≡ utf8 (flat_map rows (take i ps)) → new ≡ utf8 (flat_map rows (take (i + 1) ps))
pane_on rows ps i p old new inside met is told =
    is ∙ ap (λ rs. rs ++ utf8 (rows p)) told ∙ sym (map-append encode_utf8_all (flat_map rows (take i ps)) (rows p))
    ∙ ap utf8 (flat_map_more rows [] (take i ps) p ∙ ap (λ x. flat_map rows (take i ps ++ x ∷ [])) met ∙ ap (flat_map rows) (sym (take_more ps i p inside)))

pub length-text_rows : (columns n : ℕ) (ls : List (List ℕ)) → length (text_rows columns n ls) ≡ n
length-text_rows columns zero ls = refl
length-text_rows columns (suc n) ls = ap suc (length-text_rows columns n (drop 1 ls))

-- each window has a row for each text row, and one for its mode line
abbrev pub HasRows : (Pane → List (List ℕ)) → Type 0
HasRows rows = (p : Pane) → length (rows p) ≡ p.height + 1

pub length-pane_rows : (columns : ℕ) → HasRows (pane_rows columns)
length-pane_rows columns p = grind (arith, length-append, length-text_rows)

pub length-pane_rows_at_point : (columns : ℕ) → HasRows (pane_rows_at_point columns)
length-pane_rows_at_point columns p = grind (arith, length-pane_rows, length-set)

length-panes : (rows : Pane → List (List ℕ)) (ps : List Pane) → HasRows rows → length (flat_map rows ps) ≡ sum_by (λ p. p.height + 1) ps
length-panes rows ps has = grind (arith, sum_by-le-sum_by, length-flat_map)

-- a frame has these, and the echo line
pub length-rows_by : (rows : Pane → List (List ℕ)) (columns : ℕ) (s : Screen) → HasRows rows → length (rows_by rows columns s) ≡ screen_rows s
length-rows_by rows columns s has = omega (arith, length-panes rows s.panes has, length-append (flat_map rows s.panes) (cut_row columns (chars s.echo) ∷ []))

pub rows_counted : (rows : Pane → List (List ℕ)) (frame : List (String Global)) (columns n : ℕ) (s : Screen) → HasRows rows → map string_bytes frame ≡ utf8 (rows_by rows columns s)
    → screen_rows s ≡ n → length frame ≡ n
rows_counted rows frame columns n s has is whole =
    sym (length-map frame string_bytes) ∙ ap length is ∙ length-map (rows_by rows columns s) encode_utf8_all ∙ length-rows_by rows columns s has ∙ whole

rows_within : (ps : List Pane) (index : ℕ) (p : Pane) → slice_get ps index ≡ Some p → rows_above index ps + (p.height + 1) ≤ sum_by (λ z. z.height + 1) ps
rows_within ps index p is =
    let more = sum_by_more_le (λ (z : Pane). z.height + 1) ps index p (slice_get_within ps index p is) in
    omega (arith, more, ap (λ (z : Pane). z.height) (get_or_from_slice_get ps index p p is))

-- a cell of a window is in the frame
pub window_within : (rows : Pane → List (List ℕ)) (columns : ℕ) (s : Screen) (index : ℕ) (p : Pane) → HasRows rows → slice_get s.panes index ≡ Some p
    → rows_above index s.panes + (p.height + 1) + 1 ≤ length (rows_by rows columns s)
window_within rows columns s index p has found = omega (arith, rows_within s.panes index p found, length-rows_by rows columns s has)

-- a row of a window, in the frame
pub row_at : (rows : Pane → List (List ℕ)) (columns : ℕ) (s : Screen) (index i : ℕ) (p : Pane) → HasRows rows → slice_get s.panes index ≡ Some p → i < p.height + 1
    → get_or (rows_by rows columns s) (rows_above index s.panes + i) [] ≡ get_or (rows p) i []
row_at rows columns s index i p has is inside =
    let same = get_or_from_slice_get s.panes index p p is in
    let here : i < length (rows (get_or s.panes index p)) = omega (arith, has (get_or s.panes index p), ap (λ (z : Pane). z.height) same) in
    let above = length-panes rows (take index s.panes) has in
    get_or_append_left (flat_map rows s.panes) (cut_row columns (chars s.echo) ∷ []) [] (rows_above index s.panes + i)
    (omega (arith, length-panes rows s.panes has, rows_within s.panes index p is))
    ∙ ap (λ n. get_or (flat_map rows s.panes) (n + i) []) (sym above)
    ∙ get_or-flat_map rows s.panes index i p [] (slice_get_within s.panes index p is) here ∙ ap (λ z. get_or (rows z) i []) same

-- ---- the row of point, where it begins further right

-- it is one of those that were written
pub row_inside : (old mid : List (String Global)) (columns above index : ℕ) (p : Pane) → map string_bytes mid ≡ map string_bytes old ++ utf8 (pane_rows columns p)
    → above ≡ length old → index ≡ above + point_row p → point_row p < p.height → index < length mid
row_inside old mid columns above index p is begin at inside = grind (arith, length-append, length-map, length-pane_rows)

-- it was put in the place of the plain one
pub rows_moved : (old mid new : List (String Global)) (columns above index column : ℕ) (p : Pane) (row line : List ℕ) → Some column ≡ column_beyond columns p
    → map string_bytes mid ≡ map string_bytes old ++ utf8 (pane_rows columns p) → above ≡ length old → index ≡ above + point_row p → line ≡ place_line p.text p.point
    → row ≡ encode_utf8_all (sideways_row columns column line) → map string_bytes new ≡ set (map string_bytes mid) index row
    → map string_bytes new ≡ map string_bytes old ++ utf8 (pane_rows_at_point columns p)
rows_moved old mid new columns above index column p row line beyond is begin at line_is row_is put =
    let pr : List (List ℕ) = pane_rows columns p in
    let before : List (List ℕ) = map string_bytes old in
    let long : length (map string_bytes old) ≡ above = length-map old string_bytes ∙ sym begin in
    let from : index - above ≡ point_row p = omega (arith, at) in
    let told : row ≡ encode_utf8_all (sideways_row columns column (place_line p.text p.point)) = row_is ∙ ap (λ l. encode_utf8_all (sideways_row columns column l)) line_is in
    put ∙ ap (λ rs. set rs index row) is ∙ set-append_right before (utf8 pr) above index row long (omega (arith, at))
    ∙ ap₂ (λ k r. before ++ set (utf8 pr) k r) from told
    ∙ ap (λ rs. before ++ rs) (sym (map-set encode_utf8_all pr (point_row p) (sideways_row columns column (place_line p.text p.point))))
    ∙ ap (λ o. before ++ utf8 (moved_rows columns p o)) beyond
