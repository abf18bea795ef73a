-- Windows that are placed over buffers, one after another, and what a frame shows of them.
use Rattle.std.proofs.Common.{◌≡◌, ℕ, zero, suc, ◌+◌, ◌<◌, ◌≤◌, List, [], ◌∷◌, ◌++◌, length, map, take, drop, get_or, true, is_some, true≢false, Option, Some, None, IsSome, slice_get, sum_by, refl, sym, ap, ◌∙◌, subst, arith}
use Rattle.std.specs.Option.{option_and_then, option_map}
use Rattle.std.proofs.lemmas.List.{take_more}
use Rattle.std.proofs.lemmas.List.Sums.{sum_by-cons}
use Rattle.std.proofs.lemmas.Option.{slice_get_within, get_or_from_slice_get, slice_get-map, slice_get-get_or, same_Some}
use Rattle.std.proofs.lemmas.Simd.{map-map}
use Rattle.mg_buffer.specs.OpenState.{OpenState}
use Rattle.mg_screen.specs.Cursor.{cursor, pane_cursor, rows_above, shows_point}
use Rattle.mg_screen.specs.Layout.{Window, window, Layout, layout, all_shown, shown_layout, heights, rows_of, IsTall}
use Rattle.mg_screen.specs.Screen.{Pane, Screen}
use Rattle.mg_screen.proofs.CursorLaws.{placed_shows}
use Rattle.rga_ops.specs.Order.{text}
use Rattle.mg_buffer.specs.Sight.{place_of}
use Rattle.mg_workspace.specs.Buffers.{Buffers}
use Rattle.mg_workspace.specs.declared.viewport.Viewport.{Viewport}
use Rattle.mg_workspace.specs.Viewports.{viewport, AreShown}
use Rattle.mg_workspace.specs.Showing.{buffer_of, first_over, placed_window, placed_windows, pane_over, pane_of, panes_of}
use Rattle.mg_workspace.proofs.ViewportLaws.{show_map, mapped_shows, window_there, changed_on}

-- ---- heights

-- each window has some text rows, and together with its mode line no more than all
pub height_within : {T : Type 0} (ws : List (Window T)) (i h : ℕ) → IsTall ws → slice_get (heights ws) i ≡ Some h → (1 ≤ h) × (h + 1 ≤ rows_of ws)
height_within [] i h tall at = absurd (true≢false (sym (ap is_some at)))
height_within (v ∷ ws) zero h tall at = let same = same_Some v.height h at in (omega (arith, same, tall.0), omega (arith, same))
height_within (v ∷ ws) (suc i) h tall at = let rest = height_within ws i h tall.1 at in (rest.0, omega (arith, rest.1))

pub some_rows : (ws : List (Window Viewport)) → IsTall ws → 0 < length ws → 2 ≤ rows_of ws
some_rows [] tall some = absurd (omega (arith, some))
some_rows (w ∷ ws) tall some = omega (arith, tall.0)

-- ---- what is placed shows the same buffers

pub placed_shown : (bs : Buffers) (l : Layout Viewport) → AreShown bs l → AreShown bs (placed_windows bs.all l)
placed_shown bs l shown = record {
  few = shown.few;
  each = show_map (length bs.all) (length bs.all) (placed_window bs.all) l.windows (λ w here. here) shown.each;
  current = mapped_shows (placed_window bs.all) l.windows l.current (viewport 0 0) (λ w. refl) ∙ shown.current;
}

-- ---- as a frame shows them

-- the windows that are shown
abbrev shown_panes : List OpenState → List (Window Viewport) → List Pane
shown_panes bs ws = map (pane_of bs) (map (placed_window bs) ws)

pub pane_at : (bs : List OpenState) (ws : List (Window Viewport)) (i : ℕ) (w : Window Viewport) → slice_get ws i ≡ Some w
    → slice_get (shown_panes bs ws) i ≡ Some (pane_of bs (placed_window bs w))
pane_at bs ws i w at =
    slice_get-map (pane_of bs) (map (placed_window bs) ws) i
    ∙ ap (option_map (pane_of bs)) (slice_get-map (placed_window bs) ws i)
    ∙ ap (λ o. option_map (pane_of bs) (option_map (placed_window bs) o)) at

height_over : (o : Option OpenState) (w : Window Viewport) → (pane_over o w).height ≡ w.height
height_over (Some b) w = refl
height_over None w = refl

pub rows_shown : (bs : List OpenState) (ws : List (Window Viewport)) → sum_by (λ p. p.height + 1) (shown_panes bs ws) ≡ rows_of ws
rows_shown bs [] = refl
rows_shown bs (w ∷ ws) =
    let rest = rows_shown bs ws in
    let p = pane_of bs (placed_window bs w) in
    let tall : p.height ≡ w.height = height_over (buffer_of bs w) (placed_window bs w) in
    let total = sum_by-cons (λ (q : Pane). q.height + 1) p (shown_panes bs ws) in
    omega (arith, rest, total, tall)

-- a window that is placed shows point
shows_over : (o : Option OpenState) (w : Window Viewport) → 1 ≤ w.height → shows_point (pane_over o (window w.height (viewport w.shown.buffer (first_over o w)))) ≡ true
shows_over (Some b) w tall = placed_shows (text b.buffer.content) (place_of b.buffer.content b.buffer.point) w.shown.first w.height tall
shows_over None w tall = placed_shows [] 0 w.shown.first w.height tall

-- the cursor is in each window
pub cursor_shown : (bs : List OpenState) (l : Layout Viewport) (columns : ℕ) (s : Screen) (i : ℕ) → s.panes ≡ panes_of bs (placed_windows bs l) → IsTall l.windows → i < length l.windows
    → IsSome (cursor columns s i)
cursor_shown bs l columns s i is tall inside =
    let w = get_or l.windows i (window 0 (viewport 0 0)) in
    let at : slice_get l.windows i ≡ Some w = slice_get-get_or l.windows i (window 0 (viewport 0 0)) inside in
    let p = pane_of bs (placed_window bs w) in
    let here : slice_get s.panes i ≡ Some p = ap (λ ps. slice_get ps i) is ∙ pane_at bs l.windows i w at in
    let height = λ (v : Window Viewport). v.height in
    let tall_at = slice_get-map height l.windows i ∙ ap (option_map height) at in
    let shown : shows_point p ≡ true = shows_over (buffer_of bs w) w (height_within l.windows i w.height tall tall_at).0 in
    subst (λ o. IsSome (option_and_then (pane_cursor columns (rows_above i s.panes)) o)) (sym here) (rw shown refl)

-- one more of a list
pub taken_on : {A : Type 0} (all before new : List A) (i : ℕ) (x : A) → slice_get all i ≡ Some x → before ≡ take i all → new ≡ before ++ x ∷ [] → new ≡ take (i + 1) all
taken_on all before new i x at is more =
    let next = take_more all i x (slice_get_within all i x at) in
    let read = get_or_from_slice_get all i x x at in
    more ∙ ap (λ xs. xs ++ x ∷ []) is ∙ ap (λ y. take i all ++ y ∷ []) (sym read) ∙ sym next

-- ---- what windows show once they are placed

pub viewport_placed : (bs : List OpenState) (ws : List (Window Viewport)) (i : ℕ) (w : Window Viewport) → slice_get ws i ≡ Some w
    → slice_get (all_shown (map (placed_window bs) ws)) i ≡ Some (placed_window bs w).shown
viewport_placed bs ws i w at =
    slice_get-map (λ (v : Window Viewport). v.shown) (map (placed_window bs) ws) i
    ∙ ap (option_map (λ (v : Window Viewport). v.shown)) (slice_get-map (placed_window bs) ws i ∙ ap (option_map (placed_window bs)) at)

mapped_there : {A : Type 0} (f : A → A) (xs : List A) (i : ℕ) → slice_get (map f (take i xs) ++ drop i xs) i ≡ slice_get xs i
mapped_there f xs zero = refl
mapped_there f [] (suc i) = refl
mapped_there f (x ∷ xs) (suc i) = mapped_there f xs i

-- one window more shows what it shows once it is placed
pub placed_on : (bs : List OpenState) (l v new : Layout Viewport) (i : ℕ) (x : Viewport) → i < length l.windows → slice_get (all_shown (placed_windows bs l).windows) i ≡ Some x
    → v ≡ layout (map (placed_window bs) (take i l.windows) ++ drop i l.windows) l.current → new ≡ shown_layout i x v
    → new ≡ layout (map (placed_window bs) (take (i + 1) l.windows) ++ drop (i + 1) l.windows) l.current
placed_on bs l v new i x inside at was shows =
    let f = placed_window bs in
    let d = window 0 (viewport 0 0) in
    let w = get_or l.windows i d in
    let here : slice_get l.windows i ≡ Some w = slice_get-get_or l.windows i d inside in
    let shown : x ≡ (f w).shown = same_Some x _ (sym at ∙ viewport_placed bs l.windows i w here) in
    shows ∙ ap (shown_layout i x) was
    ∙ ap (λ ws. layout ws l.current) (changed_on f l.windows _ i w x inside (mapped_there f l.windows i ∙ here) (ap (window w.height) shown) refl)

-- the pane of a window that is placed
pub pane_there : (bs : List OpenState) (ws : List (Window Viewport)) (i h : ℕ) (x : Viewport) (b : OpenState) → slice_get (heights ws) i ≡ Some h
    → slice_get (all_shown (map (placed_window bs) ws)) i ≡ Some x → slice_get bs x.buffer ≡ Some b → slice_get (shown_panes bs ws) i ≡ Some (pane_over (Some b) (window h x))
pane_there bs ws i h x b tall shown at =
    let there = window_there (map (placed_window bs) ws) i h x (ap (λ hs. slice_get hs i) (map-map (λ (w : Window Viewport). w.height) (placed_window bs) ws) ∙ tall) shown in
    slice_get-map (pane_of bs) (map (placed_window bs) ws) i ∙ ap (option_map (pane_of bs)) there ∙ ap (λ o. Some (pane_over o (window h x))) at
