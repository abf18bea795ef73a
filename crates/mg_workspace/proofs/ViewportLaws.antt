-- What is known of windows by what they show.
use Rattle.std.proofs.Common.{◌≡◌, ℕ, zero, suc, ◌+◌, ◌-◌, ◌<◌, List, [], ◌∷◌, ◌++◌, length, map, take, drop, get_or, Some, slice_get, slice_set, is_some, Result, Ok, Err, OnOk, OnErr, true≢false, refl, sym, ap, subst, ◌∙◌, arith}
use Rattle.std.specs.List.{AllByRecursion, remove}
use Rattle.std.specs.Option.{option_map, unwrap_or}
use Rattle.std.proofs.lemmas.List.{length-map, length-set}
use Rattle.std.proofs.lemmas.Option.{same_Some, get_or_from_slice_get, unwrap_or-slice_get, slice_get-get_or, slice_get-map, slice_get_within}
use Rattle.std.proofs.lemmas.List.Edits.{length-remove, map_over_more}
use Rattle.mg_screen.specs.Layout.{Window, window, Layout, layout, heights, all_shown, shows_at, shown_layout, split_at, remove_at, windows_of, shared, fitting, gone_above, staying, resized_layout}
use Rattle.mg_workspace.specs.Buffers.{Buffers, without_buffer}
use Rattle.mg_workspace.specs.Names.{moved}
use Rattle.mg_workspace.proofs.Moves.{moved_first, moved_within}
use Rattle.mg_workspace.specs.declared.viewport.Viewport.{Viewport}
use Rattle.mg_workspace.specs.Viewports.{viewport, current_viewport, window_without, layout_without, ShowThese, AreShown}

-- ---- the window at an index

pub window_there : {T : Type 0} (ws : List (Window T)) (i h : ℕ) (s : T) → slice_get (heights ws) i ≡ Some h → slice_get (all_shown ws) i ≡ Some s → slice_get ws i ≡ Some (window h s)
window_there [] i h s tall shown = absurd (true≢false (sym (ap is_some tall)))
window_there (w ∷ ws) zero h s tall shown =
    ap (λ n. Some (window n w.shown)) (same_Some w.height h tall) ∙ ap (λ t. Some (window h t)) (same_Some w.shown s shown)
window_there (w ∷ ws) (suc i) h s tall shown = window_there ws i h s tall shown

pub shown_there : {T : Type 0} (ws : List (Window T)) (i : ℕ) (s : T) (P : T → Type 0) → slice_get (all_shown ws) i ≡ Some s → AllByRecursion (λ w. P w.shown) ws → P s
shown_there [] i s P at all = absurd (true≢false (sym (ap is_some at)))
shown_there (w ∷ ws) zero s P at all = subst P (same_Some w.shown s at) all.0
shown_there (w ∷ ws) (suc i) s P at all = shown_there ws i s P at all.1

shows_set : {T : Type 0} (i : ℕ) (x : T) (ws : List (Window T)) (d : Window T) → shows_at i x ws ≡ slice_set ws i (window (get_or ws i d).height x)
shows_set i x [] d = refl
shows_set zero x (w ∷ ws) d = refl
shows_set (suc i) x (w ∷ ws) d = ap (λ vs. w ∷ vs) (shows_set i x ws d)

pub length-shows_at : {T : Type 0} (i : ℕ) (x : T) (ws : List (Window T)) → length (shows_at i x ws) ≡ length ws
length-shows_at i x ws = ap length (shows_set i x ws (window 0 x)) ∙ length-set ws i _

-- one window more becomes what the function says of it
pub changed_on : (f : Window Viewport → Window Viewport) (ws vs : List (Window Viewport)) (i : ℕ) (w : Window Viewport) (x : Viewport) → i < length ws
    → slice_get vs i ≡ Some w → window w.height x ≡ f w → vs ≡ map f (take i ws) ++ drop i ws → shows_at i x vs ≡ map f (take (i + 1) ws) ++ drop (i + 1) ws
changed_on f ws vs i w x inside at is changed =
    let read : get_or vs i w ≡ w = get_or_from_slice_get vs i w w at in
    shows_set i x vs w ∙ ap (λ (u : Window Viewport). slice_set vs i (window u.height x)) read ∙ ap (slice_set vs i) is ∙ map_over_more f ws vs i w inside changed (sym read)

-- ---- each window shows one of so many buffers

-- windows that changed, or stayed where that was refused
pub show_either : {T E : Type 0} (r : Result T E) (n : ℕ) (l m new : Layout Viewport) → OnOk r (new ≡ m) → OnErr r (new ≡ l)
    → ShowThese n m.windows → ShowThese n l.windows → ShowThese n new.windows
show_either (Ok x) n l m new is same changed stayed = subst (λ (v : Layout Viewport). ShowThese n v.windows) (sym is) changed
show_either (Err e) n l m new is same changed stayed = subst (λ (v : Layout Viewport). ShowThese n v.windows) (sym same) stayed

pub show_split : (n i : ℕ) (ws : List (Window Viewport)) → ShowThese n ws → ShowThese n (split_at i ws)
show_split n i [] all = all
show_split n zero (w ∷ ws) all = (all.0, (all.0, all.1))
show_split n (suc i) (w ∷ ws) all = (all.0, show_split n i ws all.1)

pub show_remove : (n i : ℕ) (ws : List (Window Viewport)) → ShowThese n ws → ShowThese n (remove_at i ws)
show_remove n i [] all = all
show_remove n i (w ∷ []) all = all
show_remove n zero (v ∷ w ∷ ws) all = (all.1.0, all.1.1)
show_remove n (suc zero) (v ∷ w ∷ ws) all = (all.0, all.1.1)
show_remove n (suc (suc i)) (v ∷ w ∷ ws) all = (all.0, show_remove n (suc i) (w ∷ ws) all.1)

show_take : (n k : ℕ) (ws : List (Window Viewport)) → ShowThese n ws → ShowThese n (take k ws)
show_take n zero ws all = tt
show_take n (suc k) [] all = tt
show_take n (suc k) (w ∷ ws) all = (all.0, show_take n k ws all.1)

pub show_map : (n m : ℕ) (f : Window Viewport → Window Viewport) (ws : List (Window Viewport))
    → ((w : Window Viewport) → w.shown.buffer < n → (f w).shown.buffer < m) → ShowThese n ws → ShowThese m (map f ws)
show_map n m f [] step all = tt
show_map n m f (w ∷ ws) step all = (step w all.0, show_map n m f ws step all.1)

show_as_tall : (n : ℕ) (hs : List ℕ) (ws : List (Window Viewport)) → ShowThese n ws → ShowThese n (windows_of hs (all_shown ws))
show_as_tall n [] ws all = tt
show_as_tall n (h ∷ hs) [] all = tt
show_as_tall n (h ∷ hs) (w ∷ ws) all = (all.0, show_as_tall n hs ws all.1)

show_drop : (n k : ℕ) (ws : List (Window Viewport)) → ShowThese n ws → ShowThese n (drop k ws)
show_drop n zero ws all = all
show_drop n (suc k) [] all = tt
show_drop n (suc k) (w ∷ ws) all = show_drop n k ws all.1

show_resized : (n rows : ℕ) (old new : Layout Viewport) → new ≡ resized_layout rows old → ShowThese n old.windows → ShowThese n new.windows
show_resized n rows old new is all =
    let stay = staying rows old.current old.windows in
    subst (λ (l : Layout Viewport). ShowThese n l.windows) (sym is)
    (show_as_tall n (shared (rows - 1) (heights stay)) stay
    (show_take n (fitting rows) (drop (gone_above rows old.current) old.windows) (show_drop n (gone_above rows old.current) old.windows all)))

pub show_at : (n i : ℕ) (x : Viewport) (ws : List (Window Viewport)) → x.buffer < n → ShowThese n ws → ShowThese n (shows_at i x ws)
show_at n i x [] here all = tt
show_at n zero x (w ∷ ws) here all = (here, all.1)
show_at n (suc i) x (w ∷ ws) here all = (all.0, show_at n i x ws here all.1)

-- ---- the current window

pub turned_shows : (ws : List (Window Viewport)) (i : ℕ) (x d : Viewport) → i < length ws → get_or (all_shown (shows_at i x ws)) i d ≡ x
turned_shows [] i x d inside = absurd (omega (arith, inside))
turned_shows (w ∷ ws) zero x d inside = refl
turned_shows (w ∷ ws) (suc i) x d inside = turned_shows ws i x d (omega (arith, inside))

pub turned_current : (l : Layout Viewport) (i : ℕ) (x : Viewport) → i ≡ l.current → i < length l.windows → (current_viewport (shown_layout i x l)).buffer ≡ x.buffer
turned_current l i x is inside =
    ap (λ k. (get_or (all_shown (shows_at i x l.windows)) k (viewport 0 0)).buffer) (sym is) ∙ ap (λ (y : Viewport). y.buffer) (turned_shows l.windows i x (viewport 0 0) inside)

-- what keeps the buffer of each window keeps that of the current one
pub mapped_shows : (f : Window Viewport → Window Viewport) (ws : List (Window Viewport)) (i : ℕ) (d : Viewport) → ((w : Window Viewport) → (f w).shown.buffer ≡ w.shown.buffer)
    → (get_or (all_shown (map f ws)) i d).buffer ≡ (get_or (all_shown ws) i d).buffer
mapped_shows f [] i d same = refl
mapped_shows f (w ∷ ws) zero d same = same w
mapped_shows f (w ∷ ws) (suc i) d same = mapped_shows f ws i d same

pub without_shows : (gone : ℕ) (ws : List (Window Viewport)) (i : ℕ)
    → (get_or (all_shown (map (window_without gone) ws)) i (viewport 0 0)).buffer ≡ moved gone (get_or (all_shown ws) i (viewport 0 0)).buffer
without_shows gone [] i = sym (moved_first gone)
without_shows gone (w ∷ ws) zero = refl
without_shows gone (w ∷ ws) (suc i) = without_shows gone ws i

-- ---- windows that follow what was done

-- one window more, once a buffer is removed
pub left_on : (gone : ℕ) (l v new : Layout Viewport) (i : ℕ) (s x : Viewport) → i < length l.windows → slice_get (all_shown v.windows) i ≡ Some s → x ≡ viewport (moved gone s.buffer) s.first
    → v ≡ layout (map (window_without gone) (take i l.windows) ++ drop i l.windows) l.current → new ≡ shown_layout i x v
    → new ≡ layout (map (window_without gone) (take (i + 1) l.windows) ++ drop (i + 1) l.windows) l.current
left_on gone l v new i s x inside at is was shows =
    let shown_by = λ (u : Window Viewport). u.shown in
    let w = get_or v.windows i (window 0 s) in
    let here : slice_get v.windows i ≡ Some w = slice_get-get_or v.windows i (window 0 s) (subst (λ n. i < n) (length-map v.windows shown_by) (slice_get_within _ i s at)) in
    let shown : s ≡ w.shown = same_Some s w.shown (sym at ∙ slice_get-map shown_by v.windows i ∙ ap (option_map shown_by) here) in
    let becomes = ap (window w.height) (is ∙ ap (λ (y : Viewport). viewport (moved gone y.buffer) y.first) shown) in
    shows ∙ (λ k. layout (shows_at i x v.windows) (was k).current)
    ∙ ap (λ ws. layout ws l.current) (changed_on (window_without gone) l.windows v.windows i w x inside here becomes (ap (λ (u : Layout Viewport). u.windows) was))

-- ---- the windows of a workspace show its buffers

pub resized_shown : (bs : Buffers) (rows : ℕ) (old new : Layout Viewport) → AreShown bs old → new ≡ resized_layout rows old
    → slice_get (all_shown new.windows) new.current ≡ slice_get (all_shown old.windows) old.current → AreShown bs new
resized_shown bs rows old new shown is stays =
    let none = viewport 0 0 in
    let same : current_viewport new ≡ current_viewport old =
    sym (unwrap_or-slice_get (all_shown new.windows) new.current none) ∙ ap (λ o. unwrap_or o none) stays ∙ unwrap_or-slice_get (all_shown old.windows) old.current none in
    record {
      few = shown.few;
      each = show_resized (length bs.all) rows old new is shown.each;
      current = ap (λ (v : Viewport). v.buffer) same ∙ shown.current;
    }

pub removed_shown : (bs : Buffers) (l : Layout Viewport) (gone : ℕ) → AreShown bs l → gone < length bs.all → 1 < length bs.all → AreShown (without_buffer gone bs) (layout_without gone l)
removed_shown bs l gone shown inside others =
    let n = length bs.all in
    let less : length (remove bs.all gone) + 1 ≡ n = length-remove bs.all gone inside in
    let m : length (remove bs.all gone) ≡ n - 1 = omega (arith, less) in
    record {
      few = omega (arith, less, shown.few);
      each = show_map n (length (remove bs.all gone)) (window_without gone) l.windows
          (λ w here. subst (λ k. moved gone w.shown.buffer < k) (sym m) (moved_within gone n w.shown.buffer inside here others)) shown.each;
      current = without_shows gone l.windows l.current ∙ ap (moved gone) shown.current;
    }
