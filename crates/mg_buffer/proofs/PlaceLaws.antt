-- A place is within the text, so that point and mark are where a command can look.
use Rattle.mg_buffer.proofs.Prelude.{◌≡◌, ℕ, ◌≤◌, Bool, true, false, cond, List, [], ◌∷◌, is_some, filter, length, refl, sym, ap, ◌∙◌, subst, arith, Option, Some, None, option_map, unwrap_or, IfSome, cond_both, same_Some, option_map_or, Identifier, is_id, is_root, Content, order, text, is_visible, visible, up_to, is_complete, Marker, stands, place, State, Notes, place_of, situation_of}
use Rattle.std.specs.Cow.{cow_slice_items}
use Rattle.rga_ops.proofs.VisibleLaws.{text_long}
use Rattle.mg_plain.specs.Situation.{IsView}
use Rattle.mg_buffer.specs.Sight.{IsSight}
use Rattle.mg_buffer.specs.declared.sight.Sight.{Sight}

kept_more : (p : Identifier → Bool) (x : Identifier) (ys xs : List Identifier) → length (filter p ys) ≤ length (filter p xs) → length (filter p (x ∷ ys)) ≤ length (filter p (x ∷ xs))
kept_more p x ys xs h = elim (p x) as (λ t. length (cond t (x ∷ filter p ys) (filter p ys)) ≤ length (cond t (x ∷ filter p xs) (filter p xs))) [ true ↦ omega (arith, h) | false ↦ h ]

up_to_shorter : (p : Identifier → Bool) (id : Identifier) (xs : List Identifier) → length (filter p (up_to id xs)) ≤ length (filter p xs)
up_to_shorter p id [] = omega arith
up_to_shorter p id (x ∷ xs) =
    cond_both (is_id x id) (x ∷ []) (x ∷ up_to id xs) (λ ys. length (filter p ys) ≤ length (filter p (x ∷ xs)))
    (λ _. kept_more p x [] xs (omega arith)) (λ _. kept_more p x (up_to id xs) xs (up_to_shorter p id xs))

place_within : (c : Content) (id : Identifier) → place_of c id ≤ length (text c)
place_within c id =
    let n : ℕ = length (filter (is_visible c) (up_to id (order c))) in
    let shorter : n ≤ length (visible c) = up_to_shorter (is_visible c) id (order c) in
    cond_both (is_root id) (Some 0) (cond (is_complete c id) (Some n) None) (λ o. unwrap_or o 0 ≤ length (text c))
    (λ _. omega arith)
    (λ _. cond_both (is_complete c id) (Some n) None (λ o. unwrap_or o 0 ≤ length (text c)) (λ _. omega (arith, shorter, text_long c)) (λ _. omega arith))

mark_within : (c : Content) (mark : Option Identifier) (m : ℕ) → option_map (place_of c) mark ≡ Some m → m ≤ length (text c)
mark_within c None m h = let clash : None ≡ Some m = h in cc
mark_within c (Some id) m h =
    let same : place_of c id ≡ m = same_Some (place_of c id) m h in
    omega (arith, place_within c id, same)

-- what a command sees of a buffer is a text with two places of it
pub is_view : (b : State) (notes : Notes) → IsView (situation_of b notes)
is_view b notes = record { point = place_within b.content b.point; mark = mark_within b.content b.mark }

-- ---- places at hand

pub placed_within : (c : Content) (s : Marker) (chars : List ℕ) → chars ≡ text c → place c s.element ≡ Some s.place → s.place ≤ length chars
placed_within c s chars is at =
    let value : place_of c s.element ≡ s.place = ap (λ o. unwrap_or o 0) at in
    let long : length chars ≡ length (text c) = ap length is in
    omega (arith, place_within c s.element, value, long)

pub mark_placed_within : (c : Content) (mark : Option Marker) (chars : List ℕ) → chars ≡ text c → IfSome mark (λ s. place c s.element ≡ Some s.place) → (x : ℕ) → option_map (λ (s : Marker). s.place) mark ≡ Some x → x ≤ length chars
mark_placed_within c None chars is at x h = let clash : None ≡ Some x = h in cc
mark_placed_within c (Some s) chars is at x h = subst (λ n. n ≤ length chars) (same_Some s.place x h) (placed_within c s chars is at)

-- what is seen are places of the text that is seen
pub seen_point_within : (b : State) (s : Sight) (chars : List ℕ) → IsSight b s → chars ≡ cow_slice_items s.text → s.point ≤ length chars
seen_point_within b s chars seen is =
    let long : length chars ≡ length (text b.content) = ap length (is ∙ seen.characters) in
    omega (arith, place_within b.content b.point, seen.point, long)

pub seen_mark_within : (b : State) (s : Sight) (chars : List ℕ) → IsSight b s → chars ≡ cow_slice_items s.text → (x : ℕ) → s.mark ≡ Some x → x ≤ length chars
seen_mark_within b s chars seen is x at =
    let long : length chars ≡ length (text b.content) = ap length (is ∙ seen.characters) in
    omega (arith, mark_within b.content b.mark x (sym seen.mark ∙ at), long)

-- what has a place at hand has a place
pub mark_stands_if : (c : Content) (mark : Option Marker) → IfSome mark (λ s. place c s.element ≡ Some s.place) → option_map_or (stands c) mark true ≡ true
mark_stands_if c None at = refl
mark_stands_if c (Some s) at = ap is_some at

pub if_some : (o : Option ℕ) (n : ℕ) → ((x : ℕ) → o ≡ Some x → x ≤ n) → IfSome o (λ x. x ≤ n)
if_some None n h = tt
if_some (Some x) n h = h x refl
