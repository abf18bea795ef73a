-- Filling touches no word.
use Rattle.std.proofs.Common.{Bool, List, None, Option, Some, [], ap, arith, filter, if◌then◌else◌, inl, length, not, option_map, refl, reverse, subst, suc, sym, zero, ℕ, ◌++◌, ◌+◌, ◌-◌, ◌<◌, ◌∷◌, ◌≡◌, ◌≤◌, ◌⊎◌}
use Rattle.std.proofs.lemmas.List.{reverse-append}
use Rattle.rga_ops.specs.Splice.{Splice}
use Rattle.mg_plain.specs.Characters.{newline_character, space}
use Rattle.mg_plain.specs.Gaps.{columns, filling, gaps, joint}
use Rattle.mg_plain.specs.Layout.{AreOfBlanks, IsOfBlanks}
use Rattle.mg_plain.specs.Paragraphs.{is_nonblank, next_word, paragraph, word_at}
use Rattle.mg_plain.specs.Scans.{least, least_from}
use Rattle.mg_plain.specs.Spans.{Span, span_chain}
use Rattle.mg_plain.proofs.RangeLaws.{greatest_up_to-within, least_found, least_from-within, none_found}
use Rattle.mg_plain.proofs.ScanLaws.{scan_on}

of_joint : (column : ℕ) (used : Option ℕ) (w : Span) → (joint column used w ≡ []) ⊎ ((joint column used w ≡ space ∷ []) ⊎ (joint column used w ≡ newline_character ∷ []))
of_joint column used w = grind arith

gaps_of_blanks : (column : ℕ) (text : List ℕ) (hi left at : ℕ) (used : Option ℕ) → at ≤ hi → hi ≤ length text → length text ≤ left + at → AreOfBlanks text (gaps column used at hi (span_chain (next_word text hi) left at))
gaps_of_blanks column text hi zero at used up within enough = (record { gone = λ k lo below. absurd (omega (arith, lo, below, within, enough)); put = inl refl }, tt)
gaps_of_blanks column text hi (suc left) at used up within enough =
    elim (least (is_nonblank text) at (hi - at)) as (λ o. least (is_nonblank text) at (hi - at) ≡ o → AreOfBlanks text (gaps column used at hi (elim (option_map (word_at text hi) o) [ None ↦ [] | Some s ↦ s ∷ span_chain (next_word text hi) left s.hi ]))) [
      | None ↦ λ h. (record { gone = λ k lo below. none_found (is_nonblank text) at (hi - at) h k lo (omega (arith, below, up)); put = inl refl }, tt)
      | Some b ↦ λ h.
          let found = least_found (is_nonblank text) at (hi - at) b h in
          let w : Span = word_at text hi b in
          let below : b < hi = omega (arith, found.below, up) in
          let one : w.hi ≡ least_from (λ k. not (is_nonblank text k)) (b + 1) hi = scan_on (λ k. not (is_nonblank text k)) b hi below (ap not found.passes) in
          let ends = least_from-within (λ k. not (is_nonblank text k)) (b + 1) hi (omega (arith, below)) in
          (record { gone = λ k lo hi. found.least k lo hi; put = of_joint column used w }, gaps_of_blanks column text hi left w.hi (Some (columns column used w)) (omega (arith, one, ends.1)) within (omega (arith, one, ends.0, enough, found.from)))
    ] refl

filtered_on : (text : List ℕ) (p : Splice → Bool) (c : Splice) (cs : List Splice) → AreOfBlanks text (filter p cs) → IsOfBlanks text c → AreOfBlanks text (filter p (c ∷ cs))
filtered_on text p c cs rest here = grind arith

filtered : (text : List ℕ) (p : Splice → Bool) (cs : List Splice) → AreOfBlanks text cs → AreOfBlanks text (filter p cs)
filtered text p [] a = tt
filtered text p (c ∷ cs) a = filtered_on text p c cs (filtered text p cs a.1) a.0

one_more : (text : List ℕ) (cs : List Splice) (c : Splice) → AreOfBlanks text cs → IsOfBlanks text c → AreOfBlanks text (cs ++ c ∷ [])
one_more text [] c a h = (h, tt)
one_more text (d ∷ cs) c a h = (a.0, one_more text cs c a.1 h)

reversed : (text : List ℕ) (cs : List Splice) → AreOfBlanks text cs → AreOfBlanks text (reverse cs)
reversed text [] a = tt
reversed text (c ∷ cs) a = subst (AreOfBlanks text) (sym (reverse-append (c ∷ []) cs)) (one_more text (reverse cs) c (reversed text cs a.1) a.0)

pub filled_of_blanks : (column : ℕ) (text : List ℕ) (point : ℕ) → point ≤ length text → (b : Bool) → AreOfBlanks text (if b then filling column text (paragraph text point) else [])
filled_of_blanks column text point within b = grind (arith, greatest_up_to-within, least_from-within, reversed, filtered, gaps_of_blanks)
