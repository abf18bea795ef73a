-- What the calls of a splitter give.
use Rattle.rga_lines.proofs.Prelude.{◌≡◌, ℕ, ◌+◌, ◌<◌, ◌≤◌, Bool, true, false, List, [], ◌∷◌, ◌++◌, length, take, drop, Some, None, Ok, Err, refl, sym, ap, ap₂, subst, ◌∙◌, append_assoc, append-nil, arith, ne_eqb, All, ltb-true, ltb-false}
use Rattle.rga_lines.proofs.Prelude.{true≢false, false≢true, drop_at, length-append, length-drop, length_push, All-head, All-tail, MAX_LINE, newline, to_first_line, to_rest, lines_of, rest_of, HasNoNewline, bytes_of_lines, BeginsLong, Splitting}
use Rattle.rga_lines.proofs.Prelude.{EndsNextLine, splitting_with, gave_up, fed, Answer, next_of_lines, next_of, StreamCall, Feed, Next, after_calls, line_in, lines_given, bytes_fed, LineFault}
use Rattle.rga_lines.proofs.StreamLemmas.{IsOther, is_cut, bytes_of_lines-cons, lines-line, rest-line, lines-append_ended}
use Rattle.rga_lines.specs.declared.fault.LineFault.TheVariants as fault

-- ---- answers

abbrev pub gave : List ℕ → Answer
gave line = Ok (Some line)

abbrev pub gave_none : Answer
gave_none = Ok None

abbrev pub failed : LineFault → Answer
failed e = Err e

-- by the answer, what waited
abbrev Had : List ℕ → List (List ℕ) → Answer × Splitting → Type 0
Had waiting lines (Ok (Some line), t) = (others : List (List ℕ)) × (lines ≡ line ∷ others) × (t ≡ splitting_with (drop (length line + 1) waiting))
Had waiting lines (Ok None, t) = (lines ≡ []) × (t ≡ splitting_with waiting) × (length waiting ≤ MAX_LINE)
Had waiting lines (Err e, t) = (e ≡ fault.Long) × (t ≡ gave_up) × BeginsLong lines waiting

had : (waiting : List ℕ) (lines : List (List ℕ)) → Had waiting lines (next_of_lines waiting lines)
had waiting [] = grind (arith, gave_up, splitting_with, ltb-true, ltb-false)
had waiting (line ∷ others) = grind (arith, gave_up, splitting_with, ltb-true)

-- a splitter that did not give up answers by the lines of what waits
next_had : (s : Splitting) → s.broken ≡ false → Had s.waiting (lines_of s.waiting) (next_of s)
next_had s good = rw good (had s.waiting (lines_of s.waiting))

-- ---- a line

record Starts (waiting line : List ℕ) : Type 0 where
  none : HasNoNewline line
  parts : waiting ≡ line ++ newline ∷ drop (length line + 1) waiting

starts : (waiting line : List ℕ) (others : List (List ℕ)) → lines_of waiting ≡ line ∷ others → Starts waiting line
starts waiting line others is = record {
  none = All-head HasNoNewline line others (subst (All HasNoNewline) is (is_cut waiting).lines_have_none);
  parts = whole ∙ ap (λ (l : List ℕ). line ++ newline ∷ l) (sym after);
}
  where
    left : List ℕ
    left = bytes_of_lines others ++ rest_of waiting

    whole : waiting ≡ line ++ newline ∷ (bytes_of_lines others ++ rest_of waiting)
    whole = (is_cut waiting).whole ∙ ap (λ (ls : List (List ℕ)). bytes_of_lines ls ++ rest_of waiting) is ∙ bytes_of_lines-cons line others (rest_of waiting)

    after : drop (length line + 1) waiting ≡ bytes_of_lines others ++ rest_of waiting
    after = ap (drop (length line + 1)) (whole ∙ sym (append_assoc line (newline ∷ []) (bytes_of_lines others ++ rest_of waiting))) ∙ drop_at (line ++ newline ∷ []) (bytes_of_lines others ++ rest_of waiting) (length line + 1) (length_push line newline)

pub record GivesLine (s t : Splitting) (line : List ℕ) : Type 0 where
  pub good : t.broken ≡ false
  pub shorter : length t.waiting < length s.waiting
  pub lines : (more : List ℕ) → lines_of (s.waiting ++ more) ≡ line ∷ lines_of (t.waiting ++ more)
  pub rest : (more : List ℕ) → rest_of (s.waiting ++ more) ≡ rest_of (t.waiting ++ more)

starts_more : (waiting line more : List ℕ) → Starts waiting line → waiting ++ more ≡ line ++ newline ∷ (drop (length line + 1) waiting ++ more)
starts_more waiting line more h = ap (λ (l : List ℕ). l ++ more) h.parts ∙ append_assoc line (newline ∷ drop (length line + 1) waiting) more

starts_shorter : (waiting line : List ℕ) → Starts waiting line → length (drop (length line + 1) waiting) < length waiting
starts_shorter waiting line h =
    omega (arith, length-drop (length line + 1) waiting, ap length h.parts, length-append line (newline ∷ drop (length line + 1) waiting))

had_gives : (s t : Splitting) (line : List ℕ) (others : List (List ℕ)) → lines_of s.waiting ≡ line ∷ others → t ≡ splitting_with (drop (length line + 1) s.waiting) → GivesLine s t line
had_gives s t line others is passed =
    let h = starts s.waiting line others is in
    let left = ap (λ (u : Splitting). u.waiting) passed in
    record {
      good = ap (λ (u : Splitting). u.broken) passed;
      shorter = subst (λ (l : List ℕ). length l < length s.waiting) (sym left) (starts_shorter s.waiting line h);
      lines = λ more. ap lines_of (starts_more s.waiting line more h) ∙ lines-line line (drop (length line + 1) s.waiting ++ more) h.none ∙ ap (λ (l : List ℕ). line ∷ lines_of (l ++ more)) (sym left);
      rest = λ more. ap rest_of (starts_more s.waiting line more h) ∙ rest-line line (drop (length line + 1) s.waiting ++ more) h.none ∙ ap (λ (l : List ℕ). rest_of (l ++ more)) (sym left);
    }

pub gives_line : (s t : Splitting) (line : List ℕ) → s.broken ≡ false → next_of s ≡ (Ok (Some line), t) → GivesLine s t line
gives_line s t line good e =
    let h : Had s.waiting (lines_of s.waiting) (gave line, t) = rw e at (next_had s good) in
    had_gives s t line h.0 h.1 h.2

-- the same of a line that was lent, and then passed
pub passes_line : (s t u : Splitting) (line : List ℕ) (end : ℕ) → s.broken ≡ false → t ≡ s → EndsNextLine s end → line ≡ take end t.waiting → u ≡ splitting_with (drop (end + 1) t.waiting) → GivesLine s u line
passes_line s t u line end good same next lent left =
    let is : (gave (take end s.waiting), splitting_with (drop (end + 1) s.waiting)) ≡ (gave line, u) =
    ap (λ (w : List ℕ). let p : Answer × Splitting = (gave (take end w), splitting_with (drop (end + 1) w)) in p) (ap (λ (v : Splitting). v.waiting) (sym same)) ∙ ap₂ (λ (l : List ℕ) (v : Splitting). let p : Answer × Splitting = (gave l, v) in p) (sym lent) (sym left) in
    gives_line s u line good (next.next ∙ is)

-- ---- no line

pub rest_is_all : (waiting : List ℕ) → lines_of waiting ≡ [] → rest_of waiting ≡ waiting
rest_is_all waiting is = sym ((is_cut waiting).whole ∙ ap (λ (ls : List (List ℕ)). bytes_of_lines ls ++ rest_of waiting) is)

whole_state : (s : Splitting) → s.broken ≡ false → s ≡ splitting_with s.waiting
whole_state s good = ap (λ (b : Bool). let t : Splitting = record { waiting = s.waiting; broken = b } in t) good

-- ---- a line that is too long

-- the first line, or where there is none the rest
abbrev first_part : List (List ℕ) → List ℕ → List ℕ
first_part [] rest = rest
first_part (line ∷ lines) rest = line

first_part-cons : (b : ℕ) (lines : List (List ℕ)) (rest : List ℕ) → first_part (to_first_line b lines) (to_rest b lines rest) ≡ b ∷ first_part lines rest
first_part-cons b [] rest = refl
first_part-cons b (line ∷ lines) rest = refl

begins_long : (lines : List (List ℕ)) (rest : List ℕ) → MAX_LINE < length (first_part lines rest) → BeginsLong lines rest
begins_long [] rest h = h
begins_long (line ∷ lines) rest h = h

part_grows : (waiting more : List ℕ) → HasNoNewline waiting → length waiting ≤ length (first_part (lines_of (waiting ++ more)) (rest_of (waiting ++ more)))
part_grows [] more none = omega arith
part_grows (b ∷ waiting) more none =
    let grown = part_grows waiting more (All-tail IsOther b waiting none) in
    rw (ne_eqb b newline (All-head IsOther b waiting none)) (rw (first_part-cons b (lines_of (waiting ++ more)) (rest_of (waiting ++ more))) (omega (arith, grown)))

stays_long : (waiting : List ℕ) (lines : List (List ℕ)) → lines_of waiting ≡ lines → BeginsLong lines waiting → (more : List ℕ) → BeginsLong (lines_of (waiting ++ more)) (rest_of (waiting ++ more))
stays_long waiting [] is long more =
    let none : HasNoNewline waiting = subst HasNoNewline (rest_is_all waiting is) (is_cut waiting).rest_has_none in
    begins_long (lines_of (waiting ++ more)) (rest_of (waiting ++ more)) (omega (arith, part_grows waiting more none, long))
stays_long waiting (line ∷ others) is long more =
    let begins = lines-append_ended waiting more ∙ ap (λ (ls : List (List ℕ)). ls ++ lines_of (rest_of waiting ++ more)) is in
    subst (λ (ls : List (List ℕ)). BeginsLong ls (rest_of (waiting ++ more))) (sym begins) long

pub gives_up : (s t : Splitting) (e : LineFault) → s.broken ≡ false → next_of s ≡ (Err e, t) → (e ≡ fault.Long) × ((more : List ℕ) → BeginsLong (lines_of (s.waiting ++ more)) (rest_of (s.waiting ++ more)))
gives_up s t e good is =
    let h : Had s.waiting (lines_of s.waiting) (failed e, t) = rw is at (next_had s good) in
    (h.0, stays_long s.waiting (lines_of s.waiting) refl h.2)

-- ---- a piece

pub fed_holds : (s t : Splitting) (piece : List ℕ) → s.broken ≡ false → t ≡ fed piece s → t ≡ splitting_with (s.waiting ++ piece)
fed_holds s t piece good e = rw good at e

-- ---- many calls

-- what many calls did with these bytes
pub record Ends (bytes : List ℕ) (given : List (List ℕ)) (end : Splitting) : Type 0 where
  pub whole : end.broken ≡ false → (lines_of bytes ≡ given ++ lines_of end.waiting) × (rest_of bytes ≡ rest_of end.waiting)
  pub broken : end.broken ≡ true → (others : List (List ℕ)) × (lines_of bytes ≡ given ++ others) × BeginsLong others (rest_of bytes)

ends_here : (s : Splitting) → s.broken ≡ false → Ends (s.waiting ++ []) [] s
ends_here s good = record {
  whole = λ _. (ap lines_of (append-nil s.waiting), ap rest_of (append-nil s.waiting));
  broken = λ e. absurd (false≢true (sym good ∙ e));
}

ends_after_line : (s t : Splitting) (line more : List ℕ) (given : List (List ℕ)) (end : Splitting) → GivesLine s t line → Ends (t.waiting ++ more) given end → Ends (s.waiting ++ more) (line ∷ given) end
ends_after_line s t line more given end h ends = record {
  whole = λ e. (h.lines more ∙ ap (λ (ls : List (List ℕ)). line ∷ ls) (ends.whole e).0, h.rest more ∙ (ends.whole e).1);
  broken = λ e. (
    (ends.broken e).0,
    h.lines more ∙ ap (λ (ls : List (List ℕ)). line ∷ ls) (ends.broken e).1,
    subst (λ (rest : List ℕ). BeginsLong (ends.broken e).0 rest) (sym (h.rest more)) (ends.broken e).2,
  );
}

ends_long : (bytes : List ℕ) → BeginsLong (lines_of bytes) (rest_of bytes) → Ends bytes [] gave_up
ends_long bytes long = record { whole = λ e. absurd (true≢false e); broken = λ _. (lines_of bytes, refl, long) }

given_up : (calls : List StreamCall) → (after_calls gave_up calls ≡ gave_up) × (lines_given gave_up calls ≡ [])
given_up [] = (refl, refl)
given_up (Feed piece ∷ calls) = given_up calls
given_up (Next ∷ calls) = given_up calls

abbrev EndsNext : List ℕ → List StreamCall → Answer × Splitting → Type 0
EndsNext bytes calls p = Ends bytes (line_in p.0 ++ lines_given p.1 calls) (after_calls p.1 calls)

abbrev EndsAfter : List ℕ → List StreamCall → Splitting → Type 0
EndsAfter bytes calls t = Ends bytes (lines_given t calls) (after_calls t calls)

ends_next : (s : Splitting) (calls : List StreamCall) → s.broken ≡ false → ((t : Splitting) → t.broken ≡ false → EndsAfter (t.waiting ++ bytes_fed calls) calls t)
    → (p : Answer × Splitting) → Had s.waiting (lines_of s.waiting) p → EndsNext (s.waiting ++ bytes_fed calls) calls p
ends_next s calls good later (Ok (Some line), t) h =
    let given = had_gives s t line h.0 h.1 h.2 in
    ends_after_line s t line (bytes_fed calls) (lines_given t calls) (after_calls t calls) given (later t given.good)
ends_next s calls good later (Ok None, t) h = subst (EndsAfter (s.waiting ++ bytes_fed calls) calls) (sym (h.1 ∙ sym (whole_state s good))) (later s good)
ends_next s calls good later (Err x, t) h =
    let long = stays_long s.waiting (lines_of s.waiting) refl h.2 (bytes_fed calls) in
    let over = given_up calls in
    let done : EndsAfter (s.waiting ++ bytes_fed calls) calls gave_up = rw (over.0, over.1) (ends_long (s.waiting ++ bytes_fed calls) long) in
    subst (EndsAfter (s.waiting ++ bytes_fed calls) calls) (sym h.1) done

pub ends : (s : Splitting) (calls : List StreamCall) → s.broken ≡ false → Ends (s.waiting ++ bytes_fed calls) (lines_given s calls) (after_calls s calls)
ends s [] good = ends_here s good
ends s (Feed piece ∷ calls) good =
    let next = fed_holds s (fed piece s) piece good refl in
    let done = subst (λ (bytes : List ℕ). EndsAfter bytes calls (splitting_with (s.waiting ++ piece))) (append_assoc s.waiting piece (bytes_fed calls)) (ends (splitting_with (s.waiting ++ piece)) calls refl) in
    subst (EndsAfter (s.waiting ++ (piece ++ bytes_fed calls)) calls) (sym next) done
ends s (Next ∷ calls) good = ends_next s calls good (λ t better. ends t calls better) (next_of s) (next_had s good)
