-- What stays as windows are split, removed and shown.
use Rattle.std.proofs.Common.{◌≡◌, ℕ, ◌+◌, ◌-◌, ◌≤◌, ◌<◌, List, [], ◌∷◌, length, take, drop, map, arith, refl, ap, suc, zero, get_or}
use Rattle.mg_screen.specs.Layout.{Window, Layout, layout, heights, rows_of, split_at, remove_at, shows_at, of_height, IsTall, FillsRows, KeepsRows, other_layout, only_layout}

-- a split shares the rows of a window that has some
pub rows-split : {T : Type 0} (i : ℕ) (ws : List (Window T)) → IsTall ws → rows_of (split_at i ws) ≡ rows_of ws
rows-split i [] tall = refl
rows-split zero (w ∷ ws) tall = grind (arith)
rows-split (suc i) (w ∷ ws) tall = let rest = rows-split i ws tall.1 in omega (arith, rest)

pub tall-split : {T : Type 0} (i : ℕ) (ws : List (Window T)) → IsTall ws → 3 ≤ get_or (heights ws) i 0 → IsTall (split_at i ws)
tall-split i [] tall large = tt
tall-split zero (w ∷ ws) tall large = (omega (arith, large), (omega (arith, large), tall.1))
tall-split (suc i) (w ∷ ws) tall large = (tall.0, tall-split i ws tall.1 large)

-- who takes over a window's rows takes over its mode line's too
pub rows-remove : {T : Type 0} (i : ℕ) (ws : List (Window T)) → rows_of (remove_at i ws) ≡ rows_of ws
rows-remove i [] = refl
rows-remove zero (w ∷ []) = refl
rows-remove (suc zero) (w ∷ []) = refl
rows-remove (suc (suc i)) (w ∷ []) = refl
rows-remove zero (v ∷ w ∷ ws) = omega arith
rows-remove (suc zero) (v ∷ w ∷ ws) = omega arith
rows-remove (suc (suc i)) (v ∷ w ∷ ws) = let rest = rows-remove (suc i) (w ∷ ws) in omega (arith, rest)

pub tall-remove : {T : Type 0} (i : ℕ) (ws : List (Window T)) → IsTall ws → IsTall (remove_at i ws)
tall-remove i [] tall = tt
tall-remove zero (w ∷ []) tall = tall
tall-remove (suc zero) (w ∷ []) tall = tall
tall-remove (suc (suc i)) (w ∷ []) tall = tall
tall-remove zero (v ∷ w ∷ ws) tall = (omega arith, tall.1.1)
tall-remove (suc zero) (v ∷ w ∷ ws) tall = (omega arith, tall.1.1)
tall-remove (suc (suc i)) (v ∷ w ∷ ws) tall = (tall.0, tall-remove (suc i) (w ∷ ws) tall.1)

pub tall-shown : {T : Type 0} (i : ℕ) (s : T) (ws : List (Window T)) → IsTall ws → IsTall (shows_at i s ws)
tall-shown i s [] tall = tt
tall-shown zero s (w ∷ ws) tall = tall
tall-shown (suc i) s (w ∷ ws) tall = (tall.0, tall-shown i s ws tall.1)

pub rows-shown : {T : Type 0} (i : ℕ) (s : T) (ws : List (Window T)) → rows_of (shows_at i s ws) ≡ rows_of ws
rows-shown i s [] = refl
rows-shown zero s (w ∷ ws) = refl
rows-shown (suc i) s (w ∷ ws) = ap (λ n. w.height + 1 + n) (rows-shown i s ws)

-- the next window is one of them
pub other_fills : {T : Type 0} (l : Layout T) → KeepsRows l (other_layout l)
other_fills l n filled = grind arith

-- one window is left, with all rows
pub only_fills : {T : Type 0} (l : Layout T) → KeepsRows l (only_layout l)
only_fills {T} l n filled = by_windows l.current l.windows filled.here (several_rows l.windows filled.tall (omega (arith, filled.here)))
  where
    several_rows : (ws : List (Window T)) → IsTall ws → 0 < length ws → 2 ≤ rows_of ws
    several_rows [] tall some = absurd (omega (arith, some))
    several_rows (w ∷ ws) tall some = omega (arith, tall.0)

    by_windows : (i : ℕ) (ws : List (Window T)) → i < length ws → 2 ≤ rows_of l.windows → FillsRows n (layout (map (of_height (rows_of l.windows - 1)) (take 1 (drop i ws))) 0)
    by_windows i [] here many = absurd (omega (arith, here))
    by_windows zero (w ∷ ws) here many = record { tall = (omega (arith, many), tt); here = omega arith; whole = omega (arith, many, filled.whole) }
    by_windows (suc i) (w ∷ ws) here many = by_windows i ws (omega (arith, here)) many
