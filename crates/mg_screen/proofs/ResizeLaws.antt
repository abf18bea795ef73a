-- Windows on a screen of other rows.
use Rattle.std.proofs.Common.{◌≡◌, ℕ, ◌+◌, ◌-◌, ◌*◌, ◌/◌, ◌≤◌, ◌<◌, List, [], ◌∷◌, ◌++◌, length, take, drop, arith, refl, sym, ◌∙◌, ap, ap₂, subst, suc, zero, get_or, set, min, slice_get}
use Rattle.std.proofs.Math.Nat.{min-le_left, min-le_right, min-eq_left, le-min}
use Rattle.std.proofs.Math.Seq.{take-append_seam}
use Rattle.std.proofs.lemmas.List.{length-take, length-drop, length-map, take_all, take-map, drop-map}
use Rattle.mg_screen.specs.Size.{most_rows}
use Rattle.mg_screen.specs.Layout.{Window, Layout, window, layout, heights, all_shown, windows_of, rows_of, shared, fitting, gone_above, staying, sharing, resized_layout, IsTall, FillsRows}
use Rattle.mg_screen.specs.Inside.{AreKeptWindows}
use Rattle.mg_screen.proofs.HeightLaws.{length-windows_of, heights-windows_of, shown-windows_of}

-- ---- the rows are shared

pub length-shared : (room : ℕ) (hs : List ℕ) → length (shared room hs) ≡ length hs
length-shared room [] = refl
length-shared room (h ∷ []) = refl
length-shared room (h ∷ g ∷ hs) =
    let n = min h (room - 2 * (length hs + 1) - 1) in
    ap suc (length-shared (room - (n + 1)) (g ∷ hs))

-- one more is written
share_next : (i room n : ℕ) (hs : List ℕ) → i + 1 < length hs → n ≡ min (get_or hs i 0) (room - 2 * (length hs - 1 - i) - 1)
    → take (suc i) (set hs i n) ++ shared (room - (n + 1)) (drop (suc i) (set hs i n)) ≡ take i hs ++ shared room (drop i hs)
share_next i room n [] inside is = absurd (omega (arith, inside))
share_next zero room n (h ∷ []) inside is = absurd (omega (arith, inside))
share_next zero room n (h ∷ g ∷ hs) inside is = grind (arith)
share_next (suc i) room n (h ∷ hs) inside is =
    let left : length (h ∷ hs) - 1 - suc i ≡ length hs - 1 - i = omega (arith, inside) in
    ap (λ t. h ∷ t) (share_next i room n hs (omega (arith, inside)) (is ∙ ap (λ k. min (get_or hs i 0) (room - 2 * k - 1)) left))

pub share_more : (i last room n : ℕ) (hs all : List ℕ) → i < last → last + 1 ≡ length hs → n ≡ min (get_or hs i 0) (room - 2 * (last - i) - 1) → take i hs ++ shared room (drop i hs) ≡ all
    → take (i + 1) (set hs i n) ++ shared (room - (n + 1)) (drop (i + 1) (set hs i n)) ≡ all
share_more i last room n hs all inside whole is told = grind (arith, share_next)

-- and the last
pub share_last : (i room : ℕ) (hs : List ℕ) → i + 1 ≡ length hs → set hs i (room - 1) ≡ take i hs ++ shared room (drop i hs)
share_last i room [] e = absurd (omega (arith, e))
share_last zero room (h ∷ []) e = refl
share_last zero room (h ∷ g ∷ hs) e = absurd (omega (arith, e))
share_last (suc i) room (h ∷ hs) e = ap (λ t. h ∷ t) (share_last i room hs (omega (arith, e)))

-- all rows are had, and each window has some
pub shared_fills : {T : Type 0} (room : ℕ) (hs : List ℕ) (ss : List T) → length hs ≡ length ss → 0 < length hs → 2 * length hs ≤ room → IsTall (windows_of hs ss)
    → IsTall (windows_of (shared room hs) ss) × (rows_of (windows_of (shared room hs) ss) ≡ room)
shared_fills room [] ss e some enough tall = absurd (omega (arith, some))
shared_fills room (h ∷ hs) [] e some enough tall = absurd (omega (arith, e))
shared_fills room (h ∷ []) (s ∷ t ∷ ss) e some enough tall = absurd (omega (arith, e))
shared_fills room (h ∷ []) (s ∷ []) e some enough tall = ((omega (arith, enough), tt), omega (arith, enough))
shared_fills room (h ∷ g ∷ hs) (s ∷ ss) e some enough tall =
    let n = min h (room - 2 * (length hs + 1) - 1) in
    let most : n ≤ room - 2 * (length hs + 1) - 1 = min-le_right h (room - 2 * (length hs + 1) - 1) in
    let least : 1 ≤ n = le-min tall.0 (omega (arith, enough)) in
    let rest = shared_fills (room - (n + 1)) (g ∷ hs) ss (omega (arith, e)) (omega arith) (omega (arith, most, enough)) tall.1 in
    ((least, rest.0), omega (arith, rest.1, most, enough))

-- ---- the windows that stay

pub take-windows_of : {T : Type 0} (n : ℕ) (hs : List ℕ) (ss : List T) → take n (windows_of hs ss) ≡ windows_of (take n hs) (take n ss)
take-windows_of zero hs ss = refl
take-windows_of (suc n) [] ss = refl
take-windows_of (suc n) (h ∷ hs) [] = refl
take-windows_of (suc n) (h ∷ hs) (s ∷ ss) = ap (λ ws. window h s ∷ ws) (take-windows_of n hs ss)

drop-windows_of : {T : Type 0} (n : ℕ) (hs : List ℕ) (ss : List T) → length hs ≡ length ss → drop n (windows_of hs ss) ≡ windows_of (drop n hs) (drop n ss)
drop-windows_of zero hs ss e = refl
drop-windows_of (suc n) [] ss e = refl
drop-windows_of (suc n) (h ∷ hs) [] e = absurd (omega (arith, e))
drop-windows_of (suc n) (h ∷ hs) (s ∷ ss) e = drop-windows_of n hs ss (omega (arith, e))

run-windows_of : {T : Type 0} (n g : ℕ) (hs : List ℕ) (ss : List T) → length hs ≡ length ss
    → take n (drop g (windows_of hs ss)) ≡ windows_of (take n (drop g hs)) (take n (drop g ss))
run-windows_of n g hs ss e = ap (take n) (drop-windows_of g hs ss e) ∙ take-windows_of n (drop g hs) (drop g ss)

tall-take : {T : Type 0} (n : ℕ) (ws : List (Window T)) → IsTall ws → IsTall (take n ws)
tall-take zero ws tall = tt
tall-take (suc n) [] tall = tt
tall-take (suc n) (w ∷ ws) tall = (tall.0, tall-take n ws tall.1)

tall-drop : {T : Type 0} (n : ℕ) (ws : List (Window T)) → IsTall ws → IsTall (drop n ws)
tall-drop zero ws tall = tall
tall-drop (suc n) [] tall = tt
tall-drop (suc n) (w ∷ ws) tall = tall-drop n ws tall.1

-- so many items from an index on, as they are kept
pub kept_run : {X : Type 0} (xs : List X) (from most left : ℕ) → from ≤ length xs → left ≡ length xs - from
    → take most (take left (drop from xs ++ take from xs)) ≡ take most (drop from xs)
kept_run xs from most left inside is =
    let here : length (drop from xs) ≡ left = length-drop from xs ∙ sym is in
    ap (take most) (ap (λ n. take n (drop from xs ++ take from xs)) (sym here) ∙ take-append_seam (drop from xs) (take from xs))

-- how many stay, and where the current one stands among them
pub count-staying : {X : Type 0} (n g i : ℕ) (xs : List X) → 0 < n → g ≡ i + 1 - n → i < length xs
    → (i - g < length (take n (drop g xs))) × (length (take n (drop g xs)) ≤ n)
count-staying n g i xs some is here =
    let count : length (take n (drop g xs)) ≡ min n (length xs - g) = length-take n (drop g xs) ∙ ap (min n) (length-drop g xs) in
    let within : suc (i - g) ≤ min n (length xs - g) = le-min (omega (arith, some, is)) (omega (arith, some, is, here)) in
    (omega (arith, count, within), omega (arith, count, min-le_left n (length xs - g)))

-- ---- as it is made

-- as many heights stay as things that are shown
paired_run : {T : Type 0} (n g : ℕ) (hs : List ℕ) (ss : List T) → length hs ≡ length ss → length (take n (drop g hs)) ≡ length (take n (drop g ss))
paired_run n g hs ss e =
    length-take n (drop g hs) ∙ ap (min n) (length-drop g hs ∙ ap (λ k. k - g) e ∙ sym (length-drop g ss)) ∙ sym (length-take n (drop g ss))

pub resized_made : {T : Type 0} (hs gs : List ℕ) (ss ts : List T) (i g rows : ℕ) → length hs ≡ length ss → g ≡ gone_above rows i
    → gs ≡ shared (rows - 1) (take (fitting rows) (drop g hs)) → ts ≡ take (fitting rows) (drop g ss)
    → layout (windows_of gs ts) (i - g) ≡ resized_layout rows (layout (windows_of hs ss) i)
resized_made {T} hs gs ss ts i g rows e gone made also =
    let n = fitting rows in
    let ws = windows_of hs ss in
    let run = run-windows_of n g hs ss e in
    let pair = paired_run n g hs ss e in
    let tall : heights (take n (drop g ws)) ≡ take n (drop g hs) = ap (λ (vs : List (Window T)). heights vs) run ∙ heights-windows_of _ _ pair in
    let shows : all_shown (take n (drop g ws)) ≡ take n (drop g ss) = ap (λ (vs : List (Window T)). all_shown vs) run ∙ shown-windows_of _ _ pair in
    ap₂ (λ xs (ys : List T). layout (windows_of xs ys) (i - g)) (made ∙ ap (shared (rows - 1)) (sym tall)) (also ∙ sym shows)
    ∙ ap (λ k. layout (sharing rows (take n (drop k ws))) (i - k)) gone

pub resized_kept : {T : Type 0} (hs gs : List ℕ) (ss ts : List T) (i g old rows : ℕ) → AreKeptWindows hs ss i old → 3 ≤ rows → rows ≤ most_rows → g ≡ gone_above rows i
    → gs ≡ shared (rows - 1) (take (fitting rows) (drop g hs)) → ts ≡ take (fitting rows) (drop g ss) → AreKeptWindows gs ts (i - g) rows
resized_kept {T} hs gs ss ts i g old rows kept least few gone made also =
    let n = fitting rows in
    let ks = take n (drop g hs) in
    let us = take n (drop g ss) in
    let room : 2 * n ≤ rows - 1 = omega arith in
    let some : 0 < n = omega (arith, least) in
    let paired : length ks ≡ length us = paired_run n g hs ss kept.paired in
    let count = count-staying n g i hs some gone kept.here in
    let tall : IsTall (windows_of ks us) =
    subst IsTall (run-windows_of n g hs ss kept.paired) (tall-take n (drop g (windows_of hs ss)) (tall-drop g (windows_of hs ss) kept.tall)) in
    let fills = shared_fills (rows - 1) ks us paired (omega (arith, count.0)) (omega (arith, count.1, room)) tall in
    let windows : windows_of (shared (rows - 1) ks) us ≡ windows_of gs ts = ap₂ (λ xs (ys : List T). windows_of xs ys) (sym made) (sym also) in
    let many : length gs ≡ length ks = ap length made ∙ length-shared (rows - 1) ks in
    record {
      paired = many ∙ paired ∙ ap length (sym also);
      here = omega (arith, many, count.0);
      tall = subst IsTall windows fills.0;
      whole = omega (arith, ap rows_of windows, fills.1, least);
      few = few;
    }

-- ---- on a screen of the same rows

paired_back : {T : Type 0} (ws : List (Window T)) → windows_of (heights ws) (all_shown ws) ≡ ws
paired_back [] = refl
paired_back (w ∷ ws) = ap (λ vs. w ∷ vs) (paired_back ws)

two_rows_each : {T : Type 0} (ws : List (Window T)) → IsTall ws → 2 * length ws ≤ rows_of ws
two_rows_each [] tall = omega arith
two_rows_each (w ∷ ws) tall = omega (arith, tall.0, two_rows_each ws tall.1)

length-heights : {T : Type 0} (ws : List (Window T)) → length (heights ws) ≡ length ws
length-heights [] = refl
length-heights (w ∷ ws) = ap suc (length-heights ws)

shared_same : {T : Type 0} (ws : List (Window T)) → IsTall ws → shared (rows_of ws) (heights ws) ≡ heights ws
shared_same [] tall = refl
shared_same (w ∷ []) tall = let is : w.height + 1 + 0 - 1 ≡ w.height = omega arith in ap (λ h. h ∷ []) is
shared_same (w ∷ v ∷ ws) tall = grind (arith, two_rows_each, min-eq_left, length-heights, shared_same (v ∷ ws) tall.1)

pub resized_same : {T : Type 0} (rows : ℕ) (l : Layout T) → FillsRows rows l → resized_layout rows l ≡ l
resized_same {T} rows l filled =
    let few : length l.windows ≤ fitting rows = omega (arith, two_rows_each l.windows filled.tall, filled.whole) in
    let none : gone_above rows l.current ≡ 0 = omega (arith, few, filled.here) in
    let stay : staying rows l.current l.windows ≡ l.windows = ap (λ g. take (fitting rows) (drop g l.windows)) none ∙ take_all (fitting rows) l.windows few in
    let here : l.current - gone_above rows l.current ≡ l.current = omega (arith, none) in
    let room : rows - 1 ≡ rows_of l.windows = omega (arith, filled.whole) in
    ap₂ layout
    (ap (sharing rows) stay ∙ ap (λ n. windows_of (shared n (heights l.windows)) (all_shown l.windows)) room
    ∙ ap (λ hs. windows_of hs (all_shown l.windows)) (shared_same l.windows filled.tall) ∙ paired_back l.windows)
    here

-- ---- the current window

slice_get-take : {X : Type 0} (n i : ℕ) (xs : List X) → i < n → slice_get (take n xs) i ≡ slice_get xs i
slice_get-take zero i xs inside = absurd (omega (arith, inside))
slice_get-take (suc n) i [] inside = refl
slice_get-take (suc n) zero (x ∷ xs) inside = refl
slice_get-take (suc n) (suc i) (x ∷ xs) inside = slice_get-take n i xs (omega (arith, inside))

slice_get-drop : {X : Type 0} (g i : ℕ) (xs : List X) → slice_get (drop g xs) i ≡ slice_get xs (g + i)
slice_get-drop zero i xs = let same : i ≡ 0 + i = omega arith in ap (slice_get xs) same
slice_get-drop (suc g) i [] = refl
slice_get-drop (suc g) i (x ∷ xs) = let same : suc (g + i) ≡ suc g + i = omega arith in slice_get-drop g i xs ∙ ap (slice_get (x ∷ xs)) same

pub current_resized : {T : Type 0} (rows : ℕ) (l new : Layout T) → 3 ≤ rows → new ≡ resized_layout rows l
    → slice_get (all_shown new.windows) new.current ≡ slice_get (all_shown l.windows) l.current
current_resized {T} rows l new least is =
    let n = fitting rows in
    let g = gone_above rows l.current in
    let ws = staying rows l.current l.windows in
    let some : 0 < n = omega (arith, least) in
    let same : length (shared (rows - 1) (heights ws)) ≡ length (all_shown ws) = length-shared (rows - 1) (heights ws) ∙ length-heights ws ∙ sym (length-map ws (λ (w : Window T). w.shown)) in
    let shows : all_shown (sharing rows ws) ≡ take n (drop g (all_shown l.windows)) =
    shown-windows_of (shared (rows - 1) (heights ws)) (all_shown ws) same
    ∙ sym (take-map (λ (w : Window T). w.shown) n (drop g l.windows)) ∙ ap (take n) (sym (drop-map (λ (w : Window T). w.shown) g l.windows)) in
    let at : g + (l.current - g) ≡ l.current = omega (arith, some) in
    ap (λ (m : Layout T). slice_get (all_shown m.windows) m.current) is ∙ ap (λ (ss : List T). slice_get ss (l.current - g)) shows ∙ slice_get-take n (l.current - g) (drop g (all_shown l.windows)) (omega (arith, some)) ∙ slice_get-drop g (l.current - g) (all_shown l.windows) ∙ ap (slice_get (all_shown l.windows)) at
