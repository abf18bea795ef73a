-- How the rows of the screen are shared among windows.
use Rattle.std.specs.Prelude.{ℕ, ◌≡◌, ◌+◌, ◌-◌, ◌*◌, ◌/◌, ◌<◌, ◌≤◌, List, [], ◌∷◌, length, map, min, take, drop, if◌then◌else◌, nat_lt, zero, suc, slice_index, refl}
use Rattle.std.proofs.Common.{ap}
use Rattle.std.specs.Coded.{Coded, code_by, coded×, coded_ℕ, coded_list}

-- a window: its text rows, and what it shows
pub record Window (T : Type 0) : Type 0 where
  pub height : ℕ
  pub shown : T

abbrev pub window : {T : Type 0} → ℕ → T → Window T
window height shown = record { height = height; shown = shown }

-- the windows from the top on, and which one is current
pub record Layout (T : Type 0) : Type 0 where
  pub windows : List (Window T)
  pub current : ℕ

-- the text rows of each
abbrev pub heights : {T : Type 0} → List (Window T) → List ℕ
heights ws = map (λ w. w.height) ws

-- what each shows
abbrev pub all_shown : {T : Type 0} → List (Window T) → List T
all_shown ws = map (λ w. w.shown) ws

-- windows of these heights, which show these
abbrev pub windows_of : {T : Type 0} → List ℕ → List T → List (Window T)
windows_of [] ss = []
windows_of (h ∷ hs) [] = []
windows_of (h ∷ hs) (s ∷ ss) = window h s ∷ windows_of hs ss

-- the rows of windows: each has its text rows and a mode line
abbrev pub rows_of : {T : Type 0} → List (Window T) → ℕ
rows_of [] = 0
rows_of (w ∷ ws) = w.height + 1 + rows_of ws

-- each window has some text rows
abbrev pub IsTall : {T : Type 0} → List (Window T) → Type 0
IsTall [] = Unit {0}
IsTall (w ∷ ws) = (1 ≤ w.height) × IsTall ws

-- a window with other text rows
abbrev pub of_height : {T : Type 0} → ℕ → Window T → Window T
of_height n w = record w { height = n }

-- the upper of the two windows that a split of so many text rows makes, and the lower
abbrev pub upper_half : ℕ → ℕ
upper_half n = (n - 1) / 2

abbrev pub lower_half : ℕ → ℕ
lower_half n = n - 1 - upper_half n

-- the window at an index in two halves, which show the same
abbrev pub split_at : {T : Type 0} → ℕ → List (Window T) → List (Window T)
split_at i [] = []
split_at zero (w ∷ ws) = of_height (upper_half w.height) w ∷ of_height (lower_half w.height) w ∷ ws
split_at (suc i) (w ∷ ws) = w ∷ split_at i ws

-- a window with the rows of another one and of its mode line
abbrev pub joined_windows : {T : Type 0} → Window T → Window T → Window T
joined_windows v w = of_height (v.height + w.height + 1) v

-- without the window at an index, whose rows go to the window above, or for the topmost to the one below
abbrev pub remove_at : {T : Type 0} → ℕ → List (Window T) → List (Window T)
remove_at i [] = []
remove_at i (w ∷ []) = w ∷ []
remove_at zero (v ∷ w ∷ ws) = joined_windows w v ∷ ws
remove_at (suc zero) (v ∷ w ∷ ws) = joined_windows v w ∷ ws
remove_at (suc (suc i)) (v ∷ w ∷ ws) = v ∷ remove_at (suc i) (w ∷ ws)

-- the window at an index alone, with all rows
abbrev pub only_at : {T : Type 0} → ℕ → List (Window T) → List (Window T)
only_at i ws = map (of_height (rows_of ws - 1)) (take 1 (drop i ws))

-- the text rows of windows that share so many rows: each keeps its own as far as two rows stay for each window below it,
-- and the lowest has what is left
abbrev pub shared : ℕ → List ℕ → List ℕ
shared room [] = []
shared room (h ∷ []) = (room - 1) ∷ []
shared room (h ∷ g ∷ hs) =
    let n = min h (room - 2 * (length hs + 1) - 1) in
    n ∷ shared (room - (n + 1)) (g ∷ hs)

-- how many windows fit on a screen of so many rows: each has two rows above the echo line
abbrev pub fitting : ℕ → ℕ
fitting rows = (rows - 1) / 2

-- how many go from the top, so that the one at an index is among those that fit
abbrev pub gone_above : ℕ → ℕ → ℕ
gone_above rows i = i + 1 - fitting rows

-- the windows that stay on a screen of so many rows: as many as fit, the topmost ones, or those down to the one at an index
abbrev pub staying : {T : Type 0} → ℕ → ℕ → List (Window T) → List (Window T)
staying rows i ws = take (fitting rows) (drop (gone_above rows i) ws)

-- windows share all rows above the echo line
abbrev pub sharing : {T : Type 0} → ℕ → List (Window T) → List (Window T)
sharing rows ws = windows_of (shared (rows - 1) (heights ws)) (all_shown ws)

-- the text rows of the current window
abbrev pub current_height : {T : Type 0} → Layout T → ℕ
current_height l = slice_index (heights l.windows) l.current

-- the window at an index shows something else
abbrev pub shows_at : {T : Type 0} → ℕ → T → List (Window T) → List (Window T)
shows_at i s [] = []
shows_at zero s (w ∷ ws) = window w.height s ∷ ws
shows_at (suc i) s (w ∷ ws) = w ∷ shows_at i s ws

-- these windows, of which this one is current
abbrev pub layout : {T : Type 0} → List (Window T) → ℕ → Layout T
layout ws i = record { windows = ws; current = i }

-- the upper one of both is current
abbrev pub split_layout : {T : Type 0} → Layout T → Layout T
split_layout l = layout (split_at l.current l.windows) l.current

-- the window that takes over the rows is current
abbrev pub removed_layout : {T : Type 0} → Layout T → Layout T
removed_layout l = layout (remove_at l.current l.windows) (l.current - 1)

-- the current window is left, and is current
abbrev pub only_layout : {T : Type 0} → Layout T → Layout T
only_layout l = layout (only_at l.current l.windows) 0

-- the next window below, round
abbrev pub other_layout : {T : Type 0} → Layout T → Layout T
other_layout l = layout l.windows (if nat_lt (l.current + 1) (length l.windows) then l.current + 1 else 0)

-- the same one is current
abbrev pub shown_layout : {T : Type 0} → ℕ → T → Layout T → Layout T
shown_layout i s l = layout (shows_at i s l.windows) l.current

-- on so many rows: the current window stays, and is current
abbrev pub resized_layout : {T : Type 0} → ℕ → Layout T → Layout T
resized_layout rows l = layout (sharing rows (staying rows l.current l.windows)) (l.current - gone_above rows l.current)

-- each window has some text rows, one is current, and with the echo line the windows fill so many rows
pub record FillsRows {T : Type 0} (rows : ℕ) (l : Layout T) : Type 0 where
  pub tall : IsTall l.windows
  pub here : l.current < length l.windows
  pub whole : rows_of l.windows + 1 ≡ rows

-- the new layout fills as many rows as the old one
abbrev pub KeepsRows : {T : Type 0} → Layout T → Layout T → Type 0
KeepsRows old new = (rows : ℕ) → FillsRows rows old → FillsRows rows new

-- windows are coded as pairs of text rows and what is shown; the pairs give them back
pub pairs_back : {T : Type 0} (ws : List (Window T)) → map (λ (q : ℕ × T). window q.0 q.1) (map (λ w. (w.height, w.shown)) ws) ≡ ws
pairs_back [] = refl
pairs_back (w ∷ ws) = ap (λ t. w ∷ t) (pairs_back ws)

abbrev pub layout_code : {T : Type 0} → Coded T → Coded (Layout T)
layout_code {T} code =
    code_by (List (ℕ × T) × ℕ) (coded× (coded_list (coded× coded_ℕ code)) coded_ℕ)
    (λ l. (map (λ w. (w.height, w.shown)) l.windows, l.current)) (λ p. layout (map (λ (q : ℕ × T). window q.0 q.1) p.0) p.1)
    (λ l. ap (λ ws. layout ws l.current) (pairs_back l.windows))
