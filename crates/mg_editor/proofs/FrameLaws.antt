-- Frames of the editor, put together: rows, cursors, what is told of windows, and the cells of places.
use Rattle.std.proofs.Common.{◌≡◌, ℕ, ◌+◌, ◌≤◌, List, sum_by, arith, ap, ◌∙◌, ◌<◌, length, Option, Some, None, IsSome, slice_get, refl, zero, suc, [], ◌∷◌, ◌++◌, map, take, is_some, true≢false, sym, get_or, append_assoc}
use Rattle.mg_buffer.specs.OpenState.{OpenState}
use Rattle.mg_screen.specs.Frame.{screen_rows}
use Rattle.mg_screen.specs.Layout.{Layout, FillsRows, IsTall, Window, heights}
use Rattle.mg_screen.specs.Screen.{Pane, Screen}
use Rattle.mg_workspace.specs.declared.viewport.Viewport.{Viewport}
use Rattle.mg_workspace.specs.Showing.{panes_of, placed_windows, placed_window, placed_work}
use Rattle.mg_workspace.proofs.ShownWindows.{rows_shown, some_rows, cursor_shown, taken_on}
use Rattle.std.specs.Option.{option_and_then, option_to_list}
use Rattle.mg_screen.specs.Cursor.{pane_cursor, rows_above}
use Rattle.mg_screen.specs.Sideways.{column_beyond, cursor_at_point, moved_cursor, pane_cursor_at_point}
use Rattle.std.proofs.lemmas.List.{map-append, take_more, flat_map_more}
use Rattle.std.proofs.lemmas.Option.{same_Some}
use Rattle.mg_events.specs.declared.status.WindowStatus.{WindowStatus}
use Rattle.mg_workspace.specs.Buffers.{Buffers, buffer_at}
use Rattle.mg_workspace.specs.Viewports.{shown_buffers}
use Rattle.mg_editor.specs.LiveStatus.{rows_and_name, told_rows_and_name}
use Rattle.std.specs.List.{cons_option, filter_map, flat_map, range_with_len}
use Rattle.std.proofs.lemmas.List.Elements.{filter_map-append}
use Rattle.rga_ops.specs.Identifier.{Identifier}
use Rattle.mg_workspace.specs.AtIndex.{state_at}
use Rattle.mg_workspace.specs.Workspaces.{Workspace}
use Rattle.mg_editor.specs.Editors.{Editor}
use Rattle.mg_editor.specs.Frames.{placed_editor, screen_of}
use Rattle.mg_editor.specs.LiveShowing.{cells_of_windows, place_cells, place_cells_in, window_cells}

-- a screen of all windows has the rows that these fill
pub screen_filled : (bs : List OpenState) (l : Layout Viewport) (rows : ℕ) (s : Screen) → s.panes ≡ panes_of bs (placed_windows bs l) → FillsRows rows l → screen_rows s ≡ rows
screen_filled bs l rows s is filled = ap (λ (ps : List Pane). sum_by (λ p. p.height + 1) ps + 1) is ∙ ap (λ n. n + 1) (rows_shown bs l.windows) ∙ filled.whole

pub rows_from : (l : Layout Viewport) (rows : ℕ) → FillsRows rows l → 3 ≤ rows
rows_from l rows filled =
    let some = some_rows l.windows filled.tall (omega (arith, filled.here)) in
    omega (arith, some, filled.whole)

-- ---- the cursor of a frame that shows point is where that of a plain frame is

moved_shown : (columns above : ℕ) (p : Pane) (beyond : Option ℕ) → IsSome (pane_cursor columns above p) → IsSome (moved_cursor columns above p beyond)
moved_shown columns above p None shown = shown
moved_shown columns above p (Some column) shown = refl

shown_in : (columns above : ℕ) (o : Option Pane) → IsSome (option_and_then (pane_cursor columns above) o) → IsSome (option_and_then (pane_cursor_at_point columns above) o)
shown_in columns above None shown = shown
shown_in columns above (Some p) shown = moved_shown columns above p (column_beyond columns p) shown

pub cursor_at_point_shown : (bs : List OpenState) (l : Layout Viewport) (columns : ℕ) (s : Screen) (i : ℕ) → s.panes ≡ panes_of bs (placed_windows bs l) → IsTall l.windows → i < length l.windows
    → IsSome (cursor_at_point columns s i)
cursor_at_point_shown bs l columns s i is tall inside =
    shown_in columns (rows_above i s.panes) (slice_get s.panes i) (cursor_shown bs l columns s i is tall inside)

-- ---- what is told of windows, one after another

pub rows_and_name_there : (bs : Buffers) (ws : List (Window Viewport)) (i h b : ℕ) → slice_get (heights ws) i ≡ Some h → slice_get (shown_buffers ws) i ≡ Some b
    → slice_get (map (rows_and_name bs) ws) i ≡ Some (h, (buffer_at b bs).buffer.name)
rows_and_name_there bs [] i h b tall at = absurd (true≢false (sym (ap is_some tall)))
rows_and_name_there bs (w ∷ ws) zero h b tall at =
    ap (λ n. Some (n, (buffer_at w.shown.buffer bs).buffer.name)) (same_Some w.height h tall)
    ∙ ap (λ n. Some (h, (buffer_at n bs).buffer.name)) (same_Some w.shown.buffer b at)
rows_and_name_there bs (w ∷ ws) (suc i) h b tall at = rows_and_name_there bs ws i h b tall at

-- one window more is told
pub told_on : (all : List (ℕ × List ℕ)) (before new : List WindowStatus) (i : ℕ) (s : WindowStatus) → slice_get all i ≡ Some (told_rows_and_name s)
    → map told_rows_and_name before ≡ take i all → new ≡ before ++ s ∷ [] → map told_rows_and_name new ≡ take (i + 1) all
told_on all before new i s at is more =
    taken_on all (map told_rows_and_name before) (map told_rows_and_name new) i (told_rows_and_name s) at is
    (ap (map told_rows_and_name) more ∙ map-append told_rows_and_name before (s ∷ []))

-- ---- cells of places, of one element more

single : {Y : Type 0} (o : Option Y) → cons_option o [] ≡ option_to_list o
single None = refl
single (Some y) = refl

pub cells_on : {X Y : Type 0} (h : X → Option Y) (xs : List X) (k : ℕ) (x : X) (start before new : List Y) → k < length xs → x ≡ get_or xs k x
    → before ≡ start ++ filter_map h (take k xs) → new ≡ before ++ option_to_list (h x) → new ≡ start ++ filter_map h (take (k + 1) xs)
cells_on h xs k x start before new inside is so_far more =
    let next : take k xs ++ x ∷ [] ≡ take (k + 1) xs = ap (λ y. take k xs ++ y ∷ []) is ∙ sym (take_more xs k x inside) in
    let step : filter_map h (take k xs) ++ option_to_list (h x) ≡ filter_map h (take (k + 1) xs) =
    ap (λ ys. filter_map h (take k xs) ++ ys) (sym (single (h x))) ∙ sym (filter_map-append h (take k xs) (x ∷ [])) ∙ ap (filter_map h) next in
    more ∙ ap (λ ys. ys ++ option_to_list (h x)) so_far ∙ append_assoc start (filter_map h (take k xs)) (option_to_list (h x)) ∙ ap (λ ys. start ++ ys) step

-- ---- and of one window more

range_more : (a n j : ℕ) → a + n ≡ j → range_with_len a (n + 1) ≡ range_with_len a n ++ j ∷ []
range_more a zero j is = let e : a ≡ j = omega (arith, is) in ap (λ x. x ∷ []) e
range_more a (suc n) j is =
    let e : suc n + 1 ≡ suc (n + 1) = omega arith in
    ap (range_with_len a) e ∙ ap (λ xs. a ∷ xs) (range_more (a + 1) n j (omega (arith, is)))

pub windows_on : {Y : Type 0} (f : ℕ → List Y) (k : ℕ) (before new : List Y) → before ≡ flat_map f (range_with_len 0 k) → new ≡ before ++ f k → new ≡ flat_map f (range_with_len 0 (k + 1))
windows_on f k before new so_far more =
    let e : 0 + k ≡ k = omega arith in
    more ∙ ap (λ ys. ys ++ f k) so_far ∙ flat_map_more f [] (range_with_len 0 k) k ∙ ap (flat_map f) (sym (range_more 0 k k e))

-- ---- windows that are placed show the same buffers

shown_placed : (bs : List OpenState) (ws : List (Window Viewport)) → shown_buffers (map (placed_window bs) ws) ≡ shown_buffers ws
shown_placed bs [] = refl
shown_placed bs (w ∷ ws) = ap (λ ns. w.shown.buffer ∷ ns) (shown_placed bs ws)

same_cells : (screen : Screen) (live : Option ℕ) (ids : List Identifier) (w : Workspace) → place_cells_in screen live ids w ≡ place_cells_in screen live ids (placed_work w)
same_cells screen None ids w = refl
same_cells screen (Some i) ids w =
    ap (λ shown. cells_of_windows shown i (window_cells w.columns screen (state_at i w).content ids)) (sym (shown_placed w.buffers.all w.windows.windows))

pub placed_cells : (live : Option ℕ) (ids : List Identifier) (e : Editor) (screen : Screen) → screen ≡ screen_of (placed_editor e)
    → place_cells_in screen live ids e.work ≡ place_cells live ids (placed_editor e)
placed_cells live ids e screen is =
    ap (λ s. place_cells_in s live ids e.work) is ∙ same_cells (screen_of (placed_editor e)) live ids e.work
