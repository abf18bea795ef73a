-- What the next line is, by the index of the first newline in what waits.
use Rattle.rga_lines.proofs.Prelude.{◌≡◌, ℕ, ◌+◌, ◌<◌, ◌≤◌, Bool, false, List, ◌∷◌, length, take, drop, Some, None, position, sym, ap, ap₂, ◌∙◌, arith, lt-ltb, le-ltb, length-take-le, take_all, MAX_LINE, lines_of, HasNoNewline, EndsNextLine}
use Rattle.rga_lines.proofs.Prelude.{Splitting, splitting_with, gave_up, next_of_lines, next_of}
use Rattle.rga_lines.proofs.Prelude.{◌-◌, ◌++◌, Ok, subst, length-append, newline, Answer, Op, One, any_line_at}
use Rattle.std.proofs.Math.Seq.{take-append_seam}
use Rattle.rga_lines.specs.Spelling.{line, BeginsWithLine}
use Rattle.rga_lines.proofs.NewlineLemmas.{line_has_none}
use Rattle.rga_lines.proofs.ReadBack.{line_back}
use Rattle.rga_lines.proofs.ReadingLemmas.{short_line}
use Rattle.rga_lines.proofs.SplitterLemmas.{gave, gave_none, failed}
use Rattle.rga_lines.proofs.StreamLemmas.{is_newline, FirstLine, first_line, no_first_line, lines-line, lines-none}
use Rattle.rga_lines.specs.declared.fault.LineFault.TheVariants as fault

abbrev pub state : List ℕ → Bool → Splitting
state waiting broken = record { waiting = waiting; broken = broken }

-- ---- of what waits

by_index : (waiting : List ℕ) (n : ℕ) → FirstLine waiting n → lines_of waiting ≡ take n waiting ∷ lines_of (drop (n + 1) waiting)
by_index waiting n first = ap lines_of first.parts ∙ lines-line (take n waiting) (drop (n + 1) waiting) first.none

-- ---- of a splitter, whose waiting bytes are a slice

whole : (s : Splitting) (slice : List ℕ) → s.broken ≡ false → slice ≡ s.waiting → s ≡ splitting_with slice
whole s slice good waiting = ap₂ state (sym waiting) good

pub line_waits : (s : Splitting) (slice : List ℕ) (n : ℕ) → s.broken ≡ false → slice ≡ s.waiting → Some n ≡ position is_newline slice → n ≤ MAX_LINE → EndsNextLine s n
line_waits s slice n good waiting at short = grind (arith, first_line, position, is_newline, length-take-le, next_of, whole, next_of_lines, by_index, le-ltb, gave, splitting_with)

-- the line of an operation, with its newline, is the next one
pub operation_waits : (s : Splitting) (slice rest behind : List ℕ) (op : Op) (first : ℕ) → s.broken ≡ false → slice ≡ s.waiting → BeginsWithLine slice op rest → rest ≡ first ∷ behind → first ≡ newline
    → EndsNextLine s (length slice - length rest) × (any_line_at (take (length slice - length rest) s.waiting) ≡ Ok (One op))
operation_waits s slice rest behind op first good waiting begins next ends =
    let size : length slice - length rest ≡ length (line op) = omega (arith, ap length begins.parts, length-append (line op) rest) in
    let here = ap (take (length (line op))) (sym waiting) ∙ front in
    subst (λ (n : ℕ). EndsNextLine s n × (any_line_at (take n s.waiting) ≡ Ok (One op))) (sym size) (
      record {
        within = omega (arith, ap length waiting, ap length parts, length-append (line op) (newline ∷ behind));
        next = found ∙ ap (λ (l : List ℕ). let p : Answer × Splitting = (gave l, splitting_with (drop (length (line op) + 1) slice)) in p) (sym front) ∙ ap (λ (w : List ℕ). let p : Answer × Splitting = (gave (take (length (line op)) w), splitting_with (drop (length (line op) + 1) w)) in p) waiting;
      },
      ap any_line_at here ∙ says,
    )
  where
    parts : slice ≡ line op ++ newline ∷ behind
    parts = begins.parts ∙ ap (λ (l : List ℕ). line op ++ l) (next ∙ ap (λ (b : ℕ). b ∷ behind) ends)

    says : any_line_at (line op) ≡ Ok (One op)
    says = line_back op begins.writable begins.ok

    front : take (length (line op)) slice ≡ line op
    front = ap (take (length (line op))) parts ∙ take-append_seam (line op) (newline ∷ behind)

    lines : lines_of slice ≡ line op ∷ lines_of behind
    lines = ap lines_of parts ∙ lines-line (line op) behind (line_has_none op begins.writable)

    found : next_of s ≡ (gave (line op), splitting_with (drop (length (line op) + 1) slice))
    found = ap next_of (whole s slice good waiting) ∙ ap (next_of_lines slice) lines ∙ rw (le-ltb MAX_LINE (length (line op)) (short_line (line op) (One op) says))

pub none_waits : (s : Splitting) (slice : List ℕ) → s.broken ≡ false → slice ≡ s.waiting → None ≡ position is_newline slice → length slice ≤ MAX_LINE → next_of s ≡ (gave_none, s)
none_waits s slice good waiting none short = grind (arith, whole, next_of, splitting_with, gave_none, next_of_lines, lines-none, no_first_line, le-ltb)

-- what stands before the newline was searched
pub none_before : (slice waiting : List ℕ) (n : ℕ) → Some n ≡ position is_newline slice → slice ≡ waiting → HasNoNewline (take n waiting)
none_before slice waiting n at is = (first_line waiting n (ap (position is_newline) (sym is) ∙ sym at)).none

pub index_within : (slice : List ℕ) (n : ℕ) → Some n ≡ position is_newline slice → n < length slice
index_within slice n at = (first_line slice n (sym at)).within

-- all of it was searched
pub none_among : (slice waiting : List ℕ) → None ≡ position is_newline slice → slice ≡ waiting → HasNoNewline (take (length slice) waiting)
none_among slice waiting none is = grind (arith, take_all, no_first_line)

pub long_line_waits : (s : Splitting) (slice : List ℕ) (n : ℕ) → s.broken ≡ false → slice ≡ s.waiting → Some n ≡ position is_newline slice → MAX_LINE < n → next_of s ≡ (failed fault.Long, gave_up)
long_line_waits s slice n good waiting at long =
    let first = first_line slice n (sym at) in
    ap next_of (whole s slice good waiting)
    ∙ ap (next_of_lines slice) (by_index slice n first)
    ∙ rw (lt-ltb MAX_LINE (length (take n slice)) (omega (arith, length-take-le n slice (omega (arith, first.within)))))

pub long_rest_waits : (s : Splitting) (slice : List ℕ) → s.broken ≡ false → slice ≡ s.waiting → None ≡ position is_newline slice → MAX_LINE < length slice → next_of s ≡ (failed fault.Long, gave_up)
long_rest_waits s slice good waiting none long =
    ap next_of (whole s slice good waiting) ∙ ap (next_of_lines slice) (lines-none slice (no_first_line slice (sym none))) ∙ rw (lt-ltb MAX_LINE (length slice) long)
