-- The lines that a note has room for, one after another.
use Rattle.std.proofs.Common.{◌≡◌, ℕ, ◌+◌, ◌≤◌, Bool, not, List, [], ◌∷◌, ◌++◌, length, take, drop, refl, sym, ap, ap₂, subst, ◌∙◌, arith, append_assoc, length-append}
use Rattle.std.proofs.lemmas.Bool.{cond_both}
use Rattle.rga_ops.specs.Content.{Content, nothing}
use Rattle.rga_lines.specs.Stream.{lines_of, rest_of}
use Rattle.mgr_mend.specs.Mending.{one_if}
use Rattle.mgr_mend.specs.Fitting.{rest_line, note_lines, fits, after_line, line_if, fitting, excess, excess_count}
use Rattle.mgr_mend.proofs.LinesLemmas.{FirstPart}
use Rattle.mgr_mend.proofs.MendedLemmas.{lines_within}

-- ---- the lines that were put, and those that follow

-- what was put, with what is made of the rest, is all
pub record IsFittedUpTo (all : List (List ℕ)) (c : Content) (rest log out : List ℕ) (count : ℕ) : Type 0 where
  pub kept : log ++ fitting c (note_lines rest) ≡ fitting nothing all
  pub left : out ++ excess c (note_lines rest) ≡ excess nothing all
  pub counted : count + excess_count c (note_lines rest) ≡ excess_count nothing all

pub none_yet : (bytes : List ℕ) (c : Content) → c ≡ nothing → IsFittedUpTo (note_lines bytes) c bytes [] [] 0
none_yet bytes c is = subst (λ d. IsFittedUpTo (note_lines bytes) d bytes [] [] 0) (sym is) (record { kept = refl; left = refl; counted = omega arith })

note_lines-first : (rest : List ℕ) (n : ℕ) → FirstPart rest n → note_lines rest ≡ take n rest ∷ note_lines (drop (n + 1) rest)
note_lines-first rest n first = ap₂ (λ (ls : List (List ℕ)) (r : List ℕ). ls ++ rest_line r) first.lines first.rest

-- one line more
pub fits_line : (all : List (List ℕ)) (c : Content) (rest log out : List ℕ) (count n : ℕ) → FirstPart rest n → IsFittedUpTo all c rest log out count
    → let line = take n rest in IsFittedUpTo all (after_line c line) (drop (n + 1) rest) (log ++ line_if (fits c line) line) (out ++ line_if (not (fits c line)) line) (count + one_if (not (fits c line)))
fits_line all c rest log out count n first sofar =
    let line = take n rest in
    let later = note_lines (drop (n + 1) rest) in
    let parts = note_lines-first rest n first in
    let whole : excess_count c (note_lines rest) ≡ one_if (not (fits c line)) + excess_count (after_line c line) later = ap (excess_count c) parts in
    record {
      kept = append_assoc log (line_if (fits c line) line) (fitting (after_line c line) later) ∙ ap (λ (ls : List (List ℕ)). log ++ fitting c ls) (sym parts) ∙ sofar.kept;
      left = append_assoc out (line_if (not (fits c line)) line) (excess (after_line c line) later) ∙ ap (λ (ls : List (List ℕ)). out ++ excess c ls) (sym parts) ∙ sofar.left;
      counted = omega (arith, whole, sofar.counted);
    }

-- what the lines, the content and the number are called in a step
abbrev State : Type 0
State = Content × List ℕ × List ℕ × List ℕ × ℕ

pub fits_step : (all : List (List ℕ)) (c d : Content) (rest line behind log out log' out' : List ℕ) (count one n : ℕ) (test : Bool) → FirstPart rest n → line ≡ take n rest → behind ≡ drop (n + 1) rest
    → test ≡ fits c line → d ≡ after_line c line → log' ≡ log ++ line_if (fits c line) line → out' ≡ out ++ line_if (not (fits c line)) line → one ≡ one_if (not test)
    → IsFittedUpTo all c rest log out count → IsFittedUpTo all d behind log' out' (count + one)
fits_step all c d rest line behind log out log' out' count one n test first front back tested after kept left counted sofar =
    let base = fits_line all c rest log out count n first sofar in
    let at = λ (l : List ℕ) (b : List ℕ). IsFittedUpTo all (after_line c l) b (log ++ line_if (fits c l) l) (out ++ line_if (not (fits c l)) l) (count + one_if (not (fits c l))) in
    let here : at line behind = subst (λ l. at l behind) (sym front) (subst (at (take n rest)) (sym back) base) in
    let one_is : one ≡ one_if (not (fits c line)) = counted ∙ ap (λ (t : Bool). one_if (not t)) tested in
    let from : State = (after_line c line, behind, log ++ line_if (fits c line) line, out ++ line_if (not (fits c line)) line, count + one_if (not (fits c line))) in
    let to : State = (d, behind, log', out', count + one) in
    let same : from ≡ to = sym (λ i. (after i, behind, kept i, left i, count + one_is i)) in
    subst (λ (t : State). IsFittedUpTo all t.0 t.1 t.2 t.3 t.4) same here

-- ---- the rest, which is the last

pub only_rest_line : (rest : List ℕ) → lines_of rest ≡ [] → rest_of rest ≡ rest → note_lines rest ≡ rest_line rest
only_rest_line rest none only = ap₂ (λ (ls : List (List ℕ)) (r : List ℕ). ls ++ rest_line r) none only

pub fits_rest : (all : List (List ℕ)) (c : Content) (rest log out : List ℕ) (count : ℕ) → lines_of rest ≡ [] → rest_of rest ≡ rest → IsFittedUpTo all c rest log out count
    → (log ++ fitting c (rest_line rest) ≡ fitting nothing all) × (out ++ excess c (rest_line rest) ≡ excess nothing all) × (count + excess_count c (rest_line rest) ≡ excess_count nothing all)
fits_rest all c rest log out count none only sofar =
    let parts = only_rest_line rest none only in (
      ap (λ (ls : List (List ℕ)). log ++ fitting c ls) (sym parts) ∙ sofar.kept,
      ap (λ (ls : List (List ℕ)). out ++ excess c ls) (sym parts) ∙ sofar.left,
      ap (λ (ls : List (List ℕ)). count + excess_count c ls) (sym parts) ∙ sofar.counted,
    )

-- ---- how many lines there are

pub excess_within : (c : Content) (lines : List (List ℕ)) → excess_count c lines ≤ length lines
excess_within c [] = omega arith
excess_within c (line ∷ lines) =
    let one : one_if (not (fits c line)) ≤ 1 = cond_both (not (fits c line)) 1 0 (λ n. n ≤ 1) (λ e. omega arith) (λ e. omega arith) in
    omega (arith, one, excess_within (after_line c line) lines)

rest_line_within : (rest : List ℕ) → length (rest_line rest) ≤ 1
rest_line_within [] = omega arith
rest_line_within (b ∷ rest) = omega arith

pub all_within : (bytes : List ℕ) → excess_count nothing (note_lines bytes) ≤ length bytes + 1
all_within bytes =
    let more = length-append (lines_of bytes) (rest_line (rest_of bytes)) in
    omega (arith, more, excess_within nothing (note_lines bytes), lines_within bytes, rest_line_within (rest_of bytes))
