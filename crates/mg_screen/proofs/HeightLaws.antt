-- Windows as they are kept: their heights, and beside these what they show.
use Rattle.std.proofs.Common.{◌≡◌, ℕ, ◌+◌, ◌-◌, ◌/◌, ◌≤◌, ◌<◌, List, [], ◌∷◌, length, take, drop, map, arith, refl, sym, ◌∙◌, ap, subst, suc, zero, get_or, set, insert, remove, sum_by, length-set}
use Rattle.std.proofs.lemmas.List.Sums.{sum_by-cons, sum_by-remove, get_or-le-sum_by}
use Rattle.std.proofs.lemmas.Bool.Decides.{nat_tests}
use Rattle.std.proofs.lemmas.List.Edits.{length-remove, length-insert}
use Rattle.mg_screen.specs.Size.{most_rows}
use Rattle.mg_screen.specs.Layout.{Layout, window, layout, heights, all_shown, windows_of, rows_of, upper_half, lower_half, split_at, remove_at, only_at, shows_at, of_height, IsTall, FillsRows, KeepsRows, other_layout, only_layout, current_height}
use Rattle.mg_screen.specs.Inside.{AreKeptWindows}
use Rattle.mg_screen.proofs.LayoutLaws.{rows-split, tall-split, rows-remove, tall-remove, tall-shown, rows-shown}

pub length-windows_of : {T : Type 0} (hs : List ℕ) (ss : List T) → length hs ≡ length ss → length (windows_of hs ss) ≡ length hs
length-windows_of [] ss e = refl
length-windows_of (h ∷ hs) [] e = absurd (omega (arith, e))
length-windows_of (h ∷ hs) (s ∷ ss) e = ap suc (length-windows_of hs ss (omega (arith, e)))

pub heights-windows_of : {T : Type 0} (hs : List ℕ) (ss : List T) → length hs ≡ length ss → heights (windows_of hs ss) ≡ hs
heights-windows_of [] ss e = refl
heights-windows_of (h ∷ hs) [] e = absurd (omega (arith, e))
heights-windows_of (h ∷ hs) (s ∷ ss) e = ap (λ t. h ∷ t) (heights-windows_of hs ss (omega (arith, e)))

pub shown-windows_of : {T : Type 0} (hs : List ℕ) (ss : List T) → length hs ≡ length ss → all_shown (windows_of hs ss) ≡ ss
shown-windows_of [] [] e = refl
shown-windows_of [] (s ∷ ss) e = absurd (omega (arith, e))
shown-windows_of (h ∷ hs) [] e = absurd (omega (arith, e))
shown-windows_of (h ∷ hs) (s ∷ ss) e = ap (λ t. s ∷ t) (shown-windows_of hs ss (omega (arith, e)))

pub rows-windows_of : {T : Type 0} (hs : List ℕ) (ss : List T) → length hs ≡ length ss → rows_of (windows_of hs ss) ≡ sum_by (λ h. h + 1) hs
rows-windows_of [] ss e = refl
rows-windows_of (h ∷ hs) [] e = absurd (omega (arith, e))
rows-windows_of (h ∷ hs) (s ∷ ss) e =
    let rest = rows-windows_of hs ss (omega (arith, e)) in
    omega (arith, rest, sum_by-cons (λ (k : ℕ). k + 1) h hs)

-- a split
pub windows-split : {T : Type 0} (i : ℕ) (hs : List ℕ) (ss : List T) (s : T) → i < length hs → length hs ≡ length ss → s ≡ get_or ss i s
    → windows_of (set (insert hs i (upper_half (get_or hs i 0))) (suc i) (lower_half (get_or hs i 0))) (insert ss i s) ≡ split_at i (windows_of hs ss)
windows-split i [] ss s inside e met = absurd (omega (arith, inside))
windows-split i (h ∷ hs) [] s inside e met = absurd (omega (arith, e))
windows-split zero (h ∷ hs) (t ∷ ss) s inside e met = ap (λ x. window (upper_half h) x ∷ window (lower_half h) t ∷ windows_of hs ss) met
windows-split (suc i) (h ∷ hs) (t ∷ ss) s inside e met =
    ap (λ ws. window h t ∷ ws) (windows-split i hs ss s (omega (arith, inside)) (omega (arith, e)) met)

-- another thing shown
pub windows-shown : {T : Type 0} (i : ℕ) (hs : List ℕ) (ss : List T) (s : T) → length hs ≡ length ss → windows_of hs (set ss i s) ≡ shows_at i s (windows_of hs ss)
windows-shown i [] ss s e = refl
windows-shown zero (h ∷ hs) [] s e = absurd (omega (arith, e))
windows-shown (suc i) (h ∷ hs) [] s e = absurd (omega (arith, e))
windows-shown zero (h ∷ hs) (t ∷ ss) s e = refl
windows-shown (suc i) (h ∷ hs) (t ∷ ss) s e = ap (λ ws. window h t ∷ ws) (windows-shown i hs ss s (omega (arith, e)))

-- without the topmost
pub windows-topmost : {T : Type 0} (h : ℕ) (hs : List ℕ) (ss : List T) → length hs ≡ length ss → 1 < length hs → h ≡ get_or hs 0 0
    → windows_of (set (remove hs 0) 0 (get_or (remove hs 0) 0 0 + (h + 1))) (remove ss 0) ≡ remove_at 0 (windows_of hs ss)
windows-topmost h [] ss e more is = absurd (omega (arith, more))
windows-topmost h (a ∷ []) ss e more is = absurd (omega (arith, more))
windows-topmost h (a ∷ b ∷ hs) [] e more is = absurd (omega (arith, e))
windows-topmost h (a ∷ b ∷ hs) (s ∷ []) e more is = absurd (omega (arith, e))
windows-topmost h (a ∷ b ∷ hs) (s ∷ t ∷ ss) e more is = grind (arith)

-- without one that has another above it
pub windows-removed : {T : Type 0} (i h : ℕ) (hs : List ℕ) (ss : List T) → length hs ≡ length ss → suc i < length hs → h ≡ get_or hs (suc i) 0
    → windows_of (set (remove hs (suc i)) i (get_or (remove hs (suc i)) i 0 + (h + 1))) (remove ss (suc i)) ≡ remove_at (suc i) (windows_of hs ss)
windows-removed i h [] ss e inside is = absurd (omega (arith, inside))
windows-removed i h (a ∷ []) ss e inside is = absurd (omega (arith, inside))
windows-removed i h (a ∷ b ∷ hs) [] e inside is = absurd (omega (arith, e))
windows-removed i h (a ∷ b ∷ hs) (s ∷ []) e inside is = absurd (omega (arith, e))
windows-removed zero h (a ∷ b ∷ hs) (s ∷ t ∷ ss) e inside is = grind (arith)
windows-removed (suc i) h (a ∷ b ∷ hs) (s ∷ t ∷ ss) e inside is =
    ap (λ ws. window a s ∷ ws) (windows-removed i h (b ∷ hs) (t ∷ ss) (omega (arith, e)) (omega (arith, inside)) is)

-- one alone
pub windows-only : {T : Type 0} (i n : ℕ) (hs : List ℕ) (ss : List T) (s : T) → length hs ≡ length ss → i < length hs → s ≡ get_or ss i s → n ≡ rows_of (windows_of hs ss) - 1
    → window n s ∷ [] ≡ only_at i (windows_of hs ss)
windows-only {T} i n hs ss s e inside met is = ap (λ k. window k s ∷ []) is ∙ picked i (rows_of (windows_of hs ss) - 1) hs ss e inside met
  where
    picked : (j k : ℕ) (gs : List ℕ) (ts : List T) → length gs ≡ length ts → j < length gs → s ≡ get_or ts j s
        → window k s ∷ [] ≡ map (of_height k) (take 1 (drop j (windows_of gs ts)))
    picked j k [] ts e inside met = absurd (omega (arith, inside))
    picked j k (g ∷ gs) [] e inside met = absurd (omega (arith, e))
    picked zero k (g ∷ gs) (t ∷ ts) e inside met = ap (λ x. window k x ∷ []) met
    picked (suc j) k (g ∷ gs) (t ∷ ts) e inside met = picked j k gs ts (omega (arith, e)) (omega (arith, inside)) met

-- a split, as it is made
pub split_made : {T : Type 0} (i n : ℕ) (hs gs : List ℕ) (ss ts : List T) (s : T) → i < length hs → length hs ≡ length ss → n ≡ get_or hs i 0 → s ≡ get_or ss i s
    → gs ≡ insert hs i ((n - 1) / 2) → ts ≡ insert ss i s → windows_of (set gs (i + 1) (n - 1 - (n - 1) / 2)) ts ≡ split_at i (windows_of hs ss)
split_made {T} i n hs gs ss ts s inside e is met grown also = grind (arith, windows-split)

-- a removal, as it is made
pub removal_made : {T : Type 0} (i j h k : ℕ) (hs gs : List ℕ) (ss ts : List T) → j ≡ i - 1 → 1 < length hs → i < length hs → length hs ≡ length ss → h ≡ get_or hs i 0
    → gs ≡ remove hs i → ts ≡ remove ss i → k ≡ get_or gs j 0 → windows_of (set gs j (k + (h + 1))) ts ≡ remove_at i (windows_of hs ss)
removal_made {T} zero j h k hs gs ss ts heir several inside e is less also read = grind (arith, windows-topmost)
removal_made {T} (suc i) j h k hs gs ss ts heir several inside e is less also read = grind (arith, windows-removed)

-- the window that takes over the rows of another one is there
pub heir_within : (i j : ℕ) (hs gs : List ℕ) → j ≡ i - 1 → 1 < length hs → i < length hs → gs ≡ remove hs i → j < length gs
heir_within i j hs gs heir several inside less = grind (arith, length-remove)

-- the text rows of a window, and what it takes over
pub rows_joined : (i j h k most : ℕ) (hs gs : List ℕ) → i < length hs → gs ≡ remove hs i → j < length gs → h ≡ get_or hs i 0 → k ≡ get_or gs j 0
    → sum_by (λ n. n + 1) hs ≤ most → k + (h + 1) ≤ most
rows_joined i j h k most hs gs inside less here is read few =
    let whole : sum_by (λ n. n + 1) (remove hs i) + (get_or hs i 0 + 1) ≡ sum_by (λ n. n + 1) hs = sum_by-remove (λ (n : ℕ). n + 1) hs i 0 inside in
    let part : get_or gs j 0 + 1 ≤ sum_by (λ n. n + 1) gs = get_or-le-sum_by (λ (n : ℕ). n + 1) gs j 0 here in
    let rest = ap (sum_by (λ (n : ℕ). n + 1)) less in
    omega (arith, whole, part, rest, is, read, few)

-- what is kept of windows of which the first so many rows hold
pub kept : {T : Type 0} (hs gs : List ℕ) (ss ts : List T) (i j rows : ℕ) → AreKeptWindows hs ss i rows → length gs ≡ length ts → j < length gs
    → rows_of (windows_of gs ts) ≡ rows_of (windows_of hs ss) → IsTall (windows_of gs ts) → AreKeptWindows gs ts j rows
kept hs gs ss ts i j rows old paired here same tall = grind (arith)

pub height_of : {T : Type 0} (hs : List ℕ) (ss : List T) (i : ℕ) → length hs ≡ length ss → get_or (heights (windows_of hs ss)) i 0 ≡ get_or hs i 0
height_of hs ss i e = ap (λ xs. get_or xs i 0) (heights-windows_of hs ss e)

-- no window has more text rows than the screen
pub sum-windows_of : {T : Type 0} (hs : List ℕ) (ss : List T) (i rows : ℕ) → AreKeptWindows hs ss i rows → sum_by (λ h. h + 1) hs ≤ most_rows
sum-windows_of hs ss i rows old = omega (arith, rows-windows_of hs ss old.paired, old.whole, old.few)

pub split_keeps : {T : Type 0} (hs gs : List ℕ) (ss ts : List T) (i rows : ℕ) → AreKeptWindows hs ss i rows → 3 ≤ get_or hs i 0 → length gs ≡ length ts → length gs ≡ length hs + 1
    → windows_of gs ts ≡ split_at i (windows_of hs ss) → AreKeptWindows gs ts i rows
split_keeps hs gs ss ts i rows old large paired longer is = grind (arith, height_of, kept, rows-split, tall-split)

pub removal_keeps : {T : Type 0} (hs gs : List ℕ) (ss ts : List T) (i j rows : ℕ) → AreKeptWindows hs ss i rows → 1 < length hs → length gs ≡ length ts → length gs + 1 ≡ length hs → j ≡ i - 1
    → windows_of gs ts ≡ remove_at i (windows_of hs ss) → AreKeptWindows gs ts j rows
removal_keeps hs gs ss ts i j rows old several paired less heir is = grind (arith, kept, rows-remove, tall-remove)

-- the next window
pub next_window : {T : Type 0} (hs : List ℕ) (ss : List T) (i : ℕ) → length hs ≡ length ss → i + 1 < length hs → layout (windows_of hs ss) (i + 1) ≡ other_layout (layout (windows_of hs ss) i)
next_window hs ss i e inside = grind (arith, length-windows_of, nat_tests)

pub first_window : {T : Type 0} (hs : List ℕ) (ss : List T) (i : ℕ) → length hs ≡ length ss → length hs ≤ i + 1 → layout (windows_of hs ss) 0 ≡ other_layout (layout (windows_of hs ss) i)
first_window hs ss i e outside = grind (arith, length-windows_of, nat_tests)

-- one window alone, as it is made
pub only_made : {T : Type 0} (hs gs : List ℕ) (ss ts : List T) (i rows : ℕ) (s : T) → AreKeptWindows hs ss i rows → s ≡ get_or ss i s → gs ≡ take 1 hs → ts ≡ take 1 ss
    → layout (windows_of (set gs 0 (rows - 2)) (set ts 0 s)) 0 ≡ only_layout (layout (windows_of hs ss) i)
only_made {T} hs gs ss ts i rows s old met cut also = grind (arith, windows-only)

pub lengths_split : {T : Type 0} (hs gs : List ℕ) (ss ts : List T) (i j u v : ℕ) (s : T) → gs ≡ insert hs i u → ts ≡ insert ss i s → length hs ≡ length ss → i < length hs
    → (length (set gs j v) ≡ length ts) × (length (set gs j v) ≡ length hs + 1)
lengths_split hs gs ss ts i j u v s grown also e inside = grind (arith, length-insert, length-set)

pub lengths_removed : {T : Type 0} (hs gs : List ℕ) (ss ts : List T) (i j v : ℕ) → gs ≡ remove hs i → ts ≡ remove ss i → length hs ≡ length ss → i < length hs
    → (length (set gs j v) ≡ length ts) × (length (set gs j v) + 1 ≡ length hs)
lengths_removed hs gs ss ts i j v less also e inside = grind (arith, length-remove, length-set)

pub shown_keeps : {T : Type 0} (hs : List ℕ) (ss : List T) (i j rows : ℕ) (s : T) → AreKeptWindows hs ss i rows → AreKeptWindows hs (set ss j s) i rows
shown_keeps hs ss i j rows s old = grind (arith, length-set, windows-shown, kept, rows-shown, tall-shown)

-- how many windows there are, as they are seen
pub counted : {T : Type 0} (hs : List ℕ) (ss : List T) (i : ℕ) (l : Layout T) → length hs ≡ length ss → layout (windows_of hs ss) i ≡ l → length l.windows ≡ length hs
counted hs ss i l e is = ap (λ k. length k.windows) (sym is) ∙ length-windows_of hs ss e

-- the text rows of the current one, as they are seen
pub current_counted : {T : Type 0} (hs : List ℕ) (ss : List T) (i n : ℕ) (l : Layout T) → length hs ≡ length ss → layout (windows_of hs ss) i ≡ l → n ≡ get_or hs i 0 → n ≡ current_height l
current_counted hs ss i n l e is met = met ∙ sym (height_of hs ss i e) ∙ ap current_height is

-- what is kept, as it is seen
pub fills : {T : Type 0} (hs : List ℕ) (ss : List T) (i rows : ℕ) → AreKeptWindows hs ss i rows → FillsRows rows (layout (windows_of hs ss) i)
fills hs ss i rows old = record { tall = old.tall; here = omega (arith, length-windows_of hs ss old.paired, old.here); whole = old.whole }

-- two lists of windows that are kept on one screen fill as many rows
pub keeps : {T : Type 0} (hs gs : List ℕ) (ss ts : List T) (i j rows : ℕ) (l : Layout T) → AreKeptWindows hs ss i rows → AreKeptWindows gs ts j rows → layout (windows_of hs ss) i ≡ l
    → KeepsRows l (layout (windows_of gs ts) j)
keeps hs gs ss ts i j rows l old new is n filled =
    let whole : n ≡ rows = sym filled.whole ∙ ap (λ k. rows_of k.windows + 1) (sym is) ∙ old.whole in
    subst (λ m. FillsRows m (layout (windows_of gs ts) j)) (sym whole) (fills gs ts j rows new)
