-- The line of a place.
use Rattle.std.proofs.Common.{◌≡◌, ℕ, zero, suc, ◌+◌, ◌-◌, ◌≤◌, ◌<◌, List, [], ◌∷◌, length, take, drop, get_or, arith, refl, sym, ◌∙◌, ap, subst, Bool, true, false, not, nat_lt, nat_le, length-drop, ◌++◌, count_by, cond, take-take}
use Rattle.std.specs.List.{position_or_len}
use Rattle.std.proofs.lemmas.List.{get_or-drop, length-take, take-append-drop, drop-take}
use Rattle.std.proofs.lemmas.List.Sums.{position_or_len_is, suffix_len-take_no, suffix_len-take_yes, suffix_len-le-length, count_by_more_yes, count_by_more_no, passes_at_first, sum_by-append}
use Rattle.std.proofs.lemmas.Bool.Decides.{nat_tests}
use Rattle.std.proofs.Math.Nat.{min-le_left, min-eq_left}
use Rattle.mg_screen.specs.Lines.{ends_line, lines, lines_on, line_index, column_of}
use Rattle.mg_screen.specs.Cursor.{place_line}
use Rattle.mg_screen.proofs.LineLaws.{lines_less, next_line}

abbrev begin_of : List ℕ → ℕ → ℕ
begin_of text place = place - column_of text place

-- there the line of a place begins, and no newline stands between
pub record BeginsLine (text : List ℕ) (place : ℕ) : Type 0 where
  pub begins : lines_on text (place - column_of text place) ≡ drop (line_index text place) (lines text)
  pub clear : (k : ℕ) → place - column_of text place ≤ k → k < place → ends_line (get_or text k 0) ≡ false
  pub first : column_of text (place - column_of text place) ≡ 0
  pub same : line_index text (place - column_of text place) ≡ line_index text place

pub column_within : (text : List ℕ) (place : ℕ) → column_of text place ≤ place
column_within text place = grind (arith, suffix_len-le-length, length-take, min-le_left)

-- the line of a place ends at the first newline behind its begin
ends_at : (text : List ℕ) (n : ℕ) → n < length text → ends_line (get_or text n 0) ≡ true → BeginsLine text n
    → n ≡ begin_of text n + position_or_len ends_line (drop (begin_of text n) text)
ends_at text n inside e before =
    let start = begin_of text n in
    let fits : start + (n - start) ≡ n = omega arith in
    let long = length-drop start text in
    let here : ends_line (get_or (drop start text) (n - start) 0) ≡ true = ap ends_line (get_or-drop start text (n - start) 0 ∙ ap (λ k. get_or text k 0) fits) ∙ e in
    let place : position_or_len ends_line (drop start text) ≡ n - start =
    position_or_len_is ends_line (drop start text) (n - start) 0 (omega (arith, long, inside))
    (λ k h. ap ends_line (get_or-drop start text k 0) ∙ before.clear (start + k) (omega arith) (omega (arith, h, fits))) (λ _. here) in
    omega (arith, place, fits)

next_place : (text : List ℕ) (n : ℕ) → n < length text → BeginsLine text n → BeginsLine text (n + 1)
next_place text n inside before = by_char (ends_line (get_or text n 0)) refl
  where
    by_char : (b : Bool) → ends_line (get_or text n 0) ≡ b → BeginsLine text (n + 1)
    by_char true e =
        let none : column_of text (n + 1) ≡ 0 = grind (arith, suffix_len-take_no (λ c. not (ends_line c)) text (n + 1) 0) in
        let more : line_index text (n + 1) ≡ line_index text n + 1 = count_by_more_yes ends_line text n 0 inside e in
        let next : lines_on text (n + 1) ≡ drop (line_index text n + 1) (lines text) =
        lines_less text (lines text) (begin_of text n) n (line_index text n) (omega (arith, inside)) (ends_at text n inside e before) before.begins in
        record { begins = grind (arith, none, more, next); clear = λ k from to. absurd (omega (arith, none, from, to)); first = grind (arith, none); same = grind (arith, none) }
    by_char false e =
        let more : column_of text (n + 1) ≡ 1 + column_of text n = grind (arith, suffix_len-take_yes (λ c. not (ends_line c)) text (n + 1) 0) in
        let same : line_index text (n + 1) ≡ line_index text n = count_by_more_no ends_line text n 0 inside e in
        let begin : n + 1 - column_of text (n + 1) ≡ begin_of text n = omega (arith, more) in
        record {
          begins = ap (lines_on text) begin ∙ before.begins ∙ ap (λ k. drop k (lines text)) (sym same);
          clear = λ k from to. by_place k (omega (arith, begin, from)) to (before.clear k) e;
          first = ap (column_of text) begin ∙ before.first;
          same = ap (line_index text) begin ∙ before.same ∙ sym same;
        }
      where
        by_place : (k : ℕ) → begin_of text n ≤ k → k < n + 1 → (begin_of text n ≤ k → k < n → ends_line (get_or text k 0) ≡ false) → ends_line (get_or text n 0) ≡ false → ends_line (get_or text k 0) ≡ false
        by_place k from to before e = grind arith

pub line_begin : (text : List ℕ) (place : ℕ) → place ≤ length text → BeginsLine text place
line_begin text zero within = grind (arith, nat_tests)
line_begin text (suc n) within =
    let one : n + 1 ≡ suc n = omega arith in
    subst (BeginsLine text) one (next_place text n (omega (arith, within)) (line_begin text n (omega (arith, within))))

-- the element at an index is the first behind it
first_left : (ls rest : List (List ℕ)) (n : ℕ) (l : List ℕ) → drop n ls ≡ l ∷ rest → get_or ls n [] ≡ l
first_left ls rest n l is =
    let last : n + 0 ≡ n = omega arith in
    ap (λ k. get_or ls k []) (sym last) ∙ sym (get_or-drop n ls 0 []) ∙ ap (λ xs. get_or xs 0 []) is

-- the line of a place, from its begin to its end
pub line_is : (text : List ℕ) (place start end : ℕ) → place ≤ length text → start ≡ place - column_of text place
    → end ≡ start + position_or_len ends_line (drop start text) → take (end - start) (drop start text) ≡ place_line text place
line_is text place start end within begin is = grind (arith, next_line, line_begin, first_left)

-- a place is not behind the end of its line
pub place_in_line : (text : List ℕ) (place start end : ℕ) → place ≤ length text → start ≡ place - column_of text place
    → end ≡ start + position_or_len ends_line (drop start text) → place ≤ end
place_in_line text place start end within begin is = by_clear (line_begin text place within).clear
  where
    by_clear : ((k : ℕ) → place - column_of text place ≤ k → k < place → ends_line (get_or text k 0) ≡ false) → place ≤ end
    by_clear clear =
        grind (arith, passes_at_first ends_line (drop start text) 0, get_or-drop start text (position_or_len ends_line (drop start text)) 0, length-drop start text, clear end)

-- what stands before a place in its line is as long as its column
pub column_in_line : (text : List ℕ) (place start end : ℕ) → place ≤ length text → start ≡ place - column_of text place
    → end ≡ start + position_or_len ends_line (drop start text) → end ≤ length text → column_of text place ≤ length (take (end - start) (drop start text))
column_in_line text place start end within begin is inside = grind (arith, place_in_line, column_within, length-take, length-drop, min-eq_left)

-- behind a place at which a line begins, where it is not the first, stands a newline that is the end of the line above
pub line_above : (text : List ℕ) (begin : ℕ) → begin ≤ length text → column_of text begin ≡ 0 → 0 < line_index text begin
    → (0 < begin) × (line_index text (begin - 1) + 1 ≡ line_index text begin)
line_above text zero within first some = absurd (omega (arith, some))
line_above text (suc n) within first some = by_char (ends_line (get_or text n 0)) refl
  where
    one : n + 1 ≡ suc n
    one = omega arith

    last : suc n - 1 ≡ n
    last = omega arith

    by_char : (b : Bool) → ends_line (get_or text n 0) ≡ b → (0 < suc n) × (line_index text (suc n - 1) + 1 ≡ line_index text (suc n))
    by_char true e =
        let more : line_index text (n + 1) ≡ line_index text n + 1 = count_by_more_yes ends_line text n 0 (omega (arith, within)) e in
        (omega arith, ap (λ k. line_index text k + 1) last ∙ sym more ∙ ap (line_index text) one)
    by_char false e =
        let here : not (ends_line (get_or text (suc n - 1) 0)) ≡ true = ap (λ k. not (ends_line (get_or text k 0))) last ∙ ap not e in
        let more : column_of text (suc n) ≡ 1 + column_of text (suc n - 1) =
        suffix_len-take_yes (λ c. not (ends_line c)) text (suc n) 0 (omega arith) within here in
        absurd (omega (arith, first, more))

-- the lines from the begin of one on
pub lines_at_begin : (text : List ℕ) (begin line : ℕ) → begin ≤ length text → column_of text begin ≡ 0 → line_index text begin ≡ line
    → lines_on text begin ≡ drop line (lines text)
lines_at_begin text begin line within first is =
    let start : begin - column_of text begin ≡ begin = omega (arith, first) in
    ap (lines_on text) (sym start) ∙ (line_begin text begin within).begins ∙ ap (λ k. drop k (lines text)) is

-- the line of a place behind another one
pub line_split : (text : List ℕ) (a b : ℕ) → a ≤ b → line_index text b ≡ line_index text a + count_by ends_line (take (b - a) (drop a text))
line_split text a b before =
    grind (arith, sum_by-append (λ c. cond (ends_line c) 1 0) (take a text) (take (b - a) (drop a text)), take-append-drop a (take b text), take-take a b text before, drop-take a (b - a) text)
