-- The line of a place, by that of another place, and what splices leave alone.
use Rattle.mg_buffer.proofs.Prelude.{◌≡◌, ℕ, ◌+◌, ◌-◌, ◌≤◌, List, [], ◌∷◌, ◌++◌, length, take, drop, min, count_by, cond, arith, refl, sym, subst, ap, ◌∙◌, drop-drop, take-take, append_assoc, length-take, take-append-le, min-le_left, min-le_right, min-eq_left, Splice, spliced, text_after, KnownLine, IsLineOfPlace, line_of, least_begin}
use Rattle.std.proofs.lemmas.List.Sums.{sum_by-take-drop}
use Rattle.mg_plain.specs.Characters.{is_newline}

-- of two places the one behind has the newlines between both more
pub lines_between : (text : List ℕ) (from to : ℕ) → from ≤ to → line_of text from + count_by is_newline (take (to - from) (drop from text)) ≡ line_of text to
lines_between text from to order =
    let before = sum_by-take-drop (λ x. cond (is_newline x) 1 0) text from in
    let all = sum_by-take-drop (λ x. cond (is_newline x) 1 0) text to in
    let between = sum_by-take-drop (λ x. cond (is_newline x) 1 0) (drop from text) (to - from) in
    let end : from + (to - from) ≡ to = omega (arith, order) in
    let behind = ap (count_by is_newline) (drop-drop (to - from) from text ∙ ap (λ n. drop n text) end) in
    omega (arith, before, all, between, behind)

-- what begins as another list is as long
within_same : (n : ℕ) (xs ys : List ℕ) → take n xs ≡ take n ys → n ≤ length ys → n ≤ length xs
within_same n xs ys same within =
    let long = length-take n ys ∙ min-eq_left within in
    omega (arith, long, ap length same, length-take n xs, min-le_right n (length xs))

-- ---- known lines

pub first_line : (text : List ℕ) (line : KnownLine) → line.place ≡ 0 → line.number ≡ 0 → IsLineOfPlace text line
first_line text line at none = record { within = omega (arith, at); numbered = none ∙ ap (line_of text) (sym at) }

-- a line stays where the text up to its place does
line_stays : (old new : List ℕ) (line : KnownLine) → take line.place new ≡ take line.place old → IsLineOfPlace old line → IsLineOfPlace new line
line_stays old new line same known = record {
  within = within_same line.place new old same known.within;
  numbered = known.numbered ∙ ap (count_by is_newline) (sym same);
}

-- and so where more of it does
pub line_in_front : (old new : List ℕ) (front : ℕ) (line : KnownLine) → line.place ≤ front → take front new ≡ take front old → IsLineOfPlace old line → IsLineOfPlace new line
line_in_front old new front line early same known =
    line_stays old new line (sym (take-take line.place front new early) ∙ ap (take line.place) same ∙ take-take line.place front old early) known

-- ---- splices

pub least_within : (place : ℕ) (splices : List Splice) → least_begin place splices ≤ place
least_within place [] = omega arith
least_within place (s ∷ splices) = omega (arith, least_within (min place s.lo) splices, min-le_left place s.lo)

take_front : (n lo : ℕ) (xs rest : List ℕ) → n ≤ lo → n ≤ length xs → take n (take lo xs ++ rest) ≡ take n xs
take_front n lo xs rest before within = take-append-le n (take lo xs) rest (omega (arith, length-take lo xs)) ∙ take-take n lo xs before

front_stays : (place : ℕ) (chars : List ℕ) (splices : List Splice) → place ≤ length chars
    → take (least_begin place splices) (text_after chars splices) ≡ take (least_begin place splices) chars
front_stays place chars [] within = refl
front_stays place chars (s ∷ splices) within =
    let least = min place s.lo in
    let first = min-le_left place s.lo in
    let begin = min-le_right place s.lo in
    let below = least_within least splices in
    let after = spliced chars s.lo s.hi s.put in
    let rest = s.put ++ drop s.hi chars in
    let parts : after ≡ take s.lo chars ++ rest = append_assoc (take s.lo chars) s.put (drop s.hi chars) in
    let kept : take least after ≡ take least chars = ap (take least) parts ∙ take_front least s.lo chars rest begin (omega (arith, first, within)) in
    let inside = within_same least after chars kept (omega (arith, first, within)) in
    front_stays least after splices inside ∙ ap (take (least_begin least splices)) parts
    ∙ take_front (least_begin least splices) s.lo chars rest (omega (arith, below, begin)) (omega (arith, below, first, within))

-- a line that is no further than where the first of them begins is one of the new text
pub line_after : (place : ℕ) (before after : List ℕ) (splices : List Splice) (line : KnownLine) → IsLineOfPlace before line → after ≡ text_after before splices → line.place ≡ least_begin place splices → place ≤ length before → IsLineOfPlace after line
line_after place before after splices line known is at within =
    line_stays before after line (subst (λ n. take n after ≡ take n before) (sym at) (ap (take (least_begin place splices)) is ∙ front_stays place before splices within)) known
