-- The lines and the rest of a stream.
use Rattle.rga_lines.proofs.Prelude.{◌≡◌, ◌≢◌, ℕ, ◌+◌, ◌-◌, ◌<◌, ◌≤◌, ◌==◌, Bool, true, false, cond, not, ltb, List, [], ◌∷◌, ◌++◌, length, take, drop, get_or, Option, Some, None, position, refl, sym, ap, ap₂, subst, ◌∙◌, append_assoc, append-nil}
use Rattle.rga_lines.proofs.Prelude.{arith, lt-ltb, le-ltb, ne_eqb, inl, inr, All, position_or_len, cases_lt, false_from_ne_true, eqb-false, eqb-true, ltb-true, ltb-false, length-take, length-drop, get_or-take, get_or-drop, All-nil, All-cons}
use Rattle.rga_lines.proofs.Prelude.{All-head, All-tail, newline, to_first_line, to_rest, lines_of, rest_of, HasNoNewline, bytes_of_lines, IsCut}
use Rattle.std.proofs.lemmas.Option.{cond_some}
use Rattle.std.proofs.lemmas.List.Sums.{position_or_len_is, prefix_len-le-length, split_at_first, fails_before_first, passes_at_first}
use Rattle.memchr.specs.Find.{IsFirstByte, is_byte}

abbrev pub IsOther : ℕ → Type 0
IsOther b = b ≢ newline

-- ---- bytes without a newline

pub lines-none : (bytes : List ℕ) → HasNoNewline bytes → lines_of bytes ≡ []
lines-none [] none = refl
lines-none (b ∷ bytes) none = rw (ne_eqb b newline (All-head IsOther b bytes none)) (ap (to_first_line b) (lines-none bytes (All-tail IsOther b bytes none)))

pub rest-none : (bytes : List ℕ) → HasNoNewline bytes → rest_of bytes ≡ bytes
rest-none [] none = refl
rest-none (b ∷ bytes) none =
    let others = All-tail IsOther b bytes none in
    rw (ne_eqb b newline (All-head IsOther b bytes none)) (ap₂ (to_rest b) (lines-none bytes others) (rest-none bytes others))

pub lines-line : (line more : List ℕ) → HasNoNewline line → lines_of (line ++ newline ∷ more) ≡ line ∷ lines_of more
lines-line [] more none = refl
lines-line (b ∷ line) more none = rw (ne_eqb b newline (All-head IsOther b line none)) (ap (to_first_line b) (lines-line line more (All-tail IsOther b line none)))

pub rest-line : (line more : List ℕ) → HasNoNewline line → rest_of (line ++ newline ∷ more) ≡ rest_of more
rest-line [] more none = refl
rest-line (b ∷ line) more none =
    let others = All-tail IsOther b line none in
    rw (ne_eqb b newline (All-head IsOther b line none)) (ap₂ (to_rest b) (lines-line line more others) (rest-line line more others))

-- ---- the one cut

cut_newline : (bytes : List ℕ) (lines : List (List ℕ)) (rest : List ℕ) → IsCut bytes lines rest → IsCut (newline ∷ bytes) ([] ∷ lines) rest
cut_newline bytes lines rest cut = grind arith

cut_other : (b : ℕ) (bytes : List ℕ) (lines : List (List ℕ)) (rest : List ℕ) → b ≢ newline → IsCut bytes lines rest → IsCut (b ∷ bytes) (to_first_line b lines) (to_rest b lines rest)
cut_other b bytes [] rest other cut = record {
  whole = ap (λ (l : List ℕ). b ∷ l) cut.whole;
  lines_have_none = All-nil HasNoNewline;
  rest_has_none = All-cons IsOther b rest other cut.rest_has_none;
}
cut_other b bytes (line ∷ lines) rest other cut = record {
  whole = ap (λ (l : List ℕ). b ∷ l) cut.whole;
  lines_have_none = All-cons HasNoNewline (b ∷ line) lines (All-cons IsOther b line other (All-head HasNoNewline line lines cut.lines_have_none)) (All-tail HasNoNewline line lines cut.lines_have_none);
  rest_has_none = cut.rest_has_none;
}

cut_step : (stop : Bool) (b : ℕ) (bytes : List ℕ) (lines : List (List ℕ)) (rest : List ℕ) → stop ≡ (b == newline) → IsCut bytes lines rest
    → IsCut (b ∷ bytes) (cond stop ([] ∷ lines) (to_first_line b lines)) (cond stop rest (to_rest b lines rest))
cut_step true b bytes lines rest is cut = subst (λ (n : ℕ). IsCut (n ∷ bytes) ([] ∷ lines) rest) (sym (eqb-true b newline (sym is))) (cut_newline bytes lines rest cut)
cut_step false b bytes lines rest is cut = cut_other b bytes lines rest (eqb-false b newline (sym is)) cut

pub is_cut : (bytes : List ℕ) → IsCut bytes (lines_of bytes) (rest_of bytes)
is_cut [] = record { whole = refl; lines_have_none = All-nil HasNoNewline; rest_has_none = All-nil IsOther }
is_cut (b ∷ bytes) = cut_step (b == newline) b bytes (lines_of bytes) (rest_of bytes) refl (is_cut bytes)

-- the first line, its newline, and what follows
pub bytes_of_lines-cons : (line : List ℕ) (lines : List (List ℕ)) (more : List ℕ) → bytes_of_lines (line ∷ lines) ++ more ≡ line ++ newline ∷ (bytes_of_lines lines ++ more)
bytes_of_lines-cons line lines more = append_assoc (line ++ newline ∷ []) (bytes_of_lines lines) more ∙ append_assoc line (newline ∷ []) (bytes_of_lines lines ++ more)

lines-ended : (lines : List (List ℕ)) (more : List ℕ) → All HasNoNewline lines → lines_of (bytes_of_lines lines ++ more) ≡ lines ++ lines_of more
lines-ended [] more none = refl
lines-ended (line ∷ lines) more none =
    ap lines_of (bytes_of_lines-cons line lines more) ∙ lines-line line (bytes_of_lines lines ++ more) (All-head HasNoNewline line lines none) ∙ ap (λ (ls : List (List ℕ)). line ∷ ls) (lines-ended lines more (All-tail HasNoNewline line lines none))

rest-ended : (lines : List (List ℕ)) (more : List ℕ) → All HasNoNewline lines → rest_of (bytes_of_lines lines ++ more) ≡ rest_of more
rest-ended [] more none = refl
rest-ended (line ∷ lines) more none =
    ap rest_of (bytes_of_lines-cons line lines more) ∙ rest-line line (bytes_of_lines lines ++ more) (All-head HasNoNewline line lines none) ∙ rest-ended lines more (All-tail HasNoNewline line lines none)

pub only_cut : (bytes : List ℕ) (lines : List (List ℕ)) (rest : List ℕ) → IsCut bytes lines rest → (lines ≡ lines_of bytes) × (rest ≡ rest_of bytes)
only_cut bytes lines rest cut = grind (arith, lines_of, lines-ended, lines-none, append-nil, rest_of, rest-ended, rest-none)

-- ---- a stream that goes on

whole_more : (bytes more : List ℕ) → bytes ++ more ≡ bytes_of_lines (lines_of bytes) ++ (rest_of bytes ++ more)
whole_more bytes more = ap (λ (l : List ℕ). l ++ more) (is_cut bytes).whole ∙ append_assoc (bytes_of_lines (lines_of bytes)) (rest_of bytes) more

pub lines-append_ended : (bytes more : List ℕ) → lines_of (bytes ++ more) ≡ lines_of bytes ++ lines_of (rest_of bytes ++ more)
lines-append_ended bytes more = ap lines_of (whole_more bytes more) ∙ lines-ended (lines_of bytes) (rest_of bytes ++ more) (is_cut bytes).lines_have_none

pub rest-append_ended : (bytes more : List ℕ) → rest_of (bytes ++ more) ≡ rest_of (rest_of bytes ++ more)
rest-append_ended bytes more = ap rest_of (whole_more bytes more) ∙ rest-ended (lines_of bytes) (rest_of bytes ++ more) (is_cut bytes).lines_have_none

-- ---- the first newline

abbrev pub is_newline : ℕ → Bool
is_newline b = b == newline

-- the first line, by the index of its newline
pub record FirstLine (bytes : List ℕ) (n : ℕ) : Type 0 where
  pub within : n < length bytes
  pub none : HasNoNewline (take n bytes)
  pub parts : bytes ≡ take n bytes ++ newline ∷ drop (n + 1) bytes

abbrev newline_index : List ℕ → ℕ
newline_index bytes = position_or_len is_newline bytes

none_before : (bytes : List ℕ) → HasNoNewline (take (newline_index bytes) bytes)
none_before bytes = grind (arith, length-take, eqb-false, fails_before_first, get_or-take)

line_at_index : (bytes : List ℕ) → newline_index bytes < length bytes → FirstLine bytes (newline_index bytes)
line_at_index bytes within = record {
  within = within;
  none = none_before bytes;
  parts = split_at_first is_newline bytes 0 within ∙ ap (λ (b : ℕ). take (newline_index bytes) bytes ++ b ∷ drop (newline_index bytes + 1) bytes) (eqb-true (get_or bytes (newline_index bytes) 0) newline (passes_at_first is_newline bytes 0 within));
}

pub first_line : (bytes : List ℕ) (n : ℕ) → position is_newline bytes ≡ Some n → FirstLine bytes n
first_line bytes n e =
    let found = cond_some (ltb (newline_index bytes) (length bytes)) (newline_index bytes) n e in
    subst (FirstLine bytes) found.1 (line_at_index bytes (ltb-true (newline_index bytes) (length bytes) found.0))

none_within : (within : Bool) (n : ℕ) → cond within (Some n) None ≡ None → within ≡ false
none_within true n e = absurd cc
none_within false n e = refl

pub no_first_line : (bytes : List ℕ) → position is_newline bytes ≡ None → HasNoNewline bytes
no_first_line bytes e = grind (arith, ltb-false, none_within, eqb-false, fails_before_first)

pub position_is : (bytes : List ℕ) (found : Option ℕ) → IsFirstByte (is_byte newline) bytes found → found ≡ position is_newline bytes
position_is bytes None nowhere =
    let end : newline_index bytes ≡ length bytes = position_or_len_is is_newline bytes (length bytes) 0 (omega arith) (λ k h. false_from_ne_true _ (nowhere k (omega arith) h)) (λ h. absurd (omega arith)) in
    rw (le-ltb (newline_index bytes) (length bytes) (omega arith))
position_is bytes (Some n) first =
    let at : newline_index bytes ≡ n = position_or_len_is is_newline bytes n 0 (omega (arith, first.0.high)) (λ k h. false_from_ne_true _ (first.0.before k (omega arith) h)) (λ _. first.1) in
    rw (lt-ltb (newline_index bytes) (length bytes) (omega (arith, first.0.high))) (ap Some (sym at))

-- ---- the first newline behind bytes that have none

other_before : (n : ℕ) (bytes : List ℕ) → HasNoNewline (take n bytes) → (k : ℕ) → k < n → k < length bytes → get_or bytes k 0 ≢ newline
other_before n bytes none k before within e = none k 0 (omega (arith, length-take n bytes)) (get_or-take n bytes k 0 before ∙ e)

fails_before : (n : ℕ) (bytes : List ℕ) → n ≤ length bytes → HasNoNewline (take n bytes) → (k : ℕ) → k < n + newline_index (drop n bytes) → is_newline (get_or bytes k 0) ≡ false
fails_before n bytes within none k h =
    elim (cases_lt k n) [
      | inl before ↦ ne_eqb (get_or bytes k 0) newline (other_before n bytes none k before (omega arith))
      | inr past ↦
          let same : n + (k - n) ≡ k = omega arith in
          let at : get_or (drop n bytes) (k - n) 0 ≡ get_or bytes k 0 = get_or-drop n bytes (k - n) 0 ∙ ap (λ (i : ℕ). get_or bytes i 0) same in
          rw (← at) (fails_before_first is_newline (drop n bytes) (k - n) 0 (omega arith))
    ]

newline_index-past : (n : ℕ) (bytes : List ℕ) → n ≤ length bytes → HasNoNewline (take n bytes) → newline_index bytes ≡ n + newline_index (drop n bytes)
newline_index-past n bytes within none =
    let most = prefix_len-le-length (λ b. not (is_newline b)) (drop n bytes) in
    position_or_len_is is_newline bytes (n + newline_index (drop n bytes)) 0 (omega (arith, most, length-drop n bytes)) (fails_before n bytes within none)
    (λ inside. rw (← get_or-drop n bytes (newline_index (drop n bytes)) 0) (passes_at_first is_newline (drop n bytes) 0 (omega (arith, length-drop n bytes))))

pub position-past : (n : ℕ) (bytes : List ℕ) (k : ℕ) → n ≤ length bytes → HasNoNewline (take n bytes) → Some k ≡ position is_newline (drop n bytes) → Some (n + k) ≡ position is_newline bytes
position-past n bytes k within none e =
    let found = cond_some (ltb (newline_index (drop n bytes)) (length (drop n bytes))) (newline_index (drop n bytes)) k (sym e) in
    let inside = ltb-true (newline_index (drop n bytes)) (length (drop n bytes)) found.0 in
    let same : newline_index bytes ≡ n + k = newline_index-past n bytes within none ∙ ap (λ (i : ℕ). n + i) found.1 in
    let below : newline_index bytes < length bytes = omega (arith, newline_index-past n bytes within none, length-drop n bytes) in
    rw (lt-ltb (newline_index bytes) (length bytes) below) (ap Some (sym same))

pub position-past_none : (n : ℕ) (bytes : List ℕ) → n ≤ length bytes → HasNoNewline (take n bytes) → None ≡ position is_newline (drop n bytes) → None ≡ position is_newline bytes
position-past_none n bytes within none e =
    let outside = ltb-false (newline_index (drop n bytes)) (length (drop n bytes)) (none_within (ltb (newline_index (drop n bytes)) (length (drop n bytes))) (newline_index (drop n bytes)) (sym e)) in
    let above : length bytes ≤ newline_index bytes = omega (arith, newline_index-past n bytes within none, length-drop n bytes) in
    rw (le-ltb (newline_index bytes) (length bytes) above)
