-- Spans of places, one after the other.
use Rattle.std.specs.Prelude.{ℕ, zero, suc, ◌≤◌, List, [], ◌∷◌, Option, Some, None}

-- the places from `lo` on and below `hi`
pub record Span : Type 0 where
  pub lo : ℕ
  pub hi : ℕ

-- the span that is found from a place on, and then each that is found from the end of the one before, so many at most
abbrev pub span_chain : (ℕ → Option Span) → ℕ → ℕ → List Span
span_chain find zero from = []
span_chain find (suc most) from = elim (find from) [ None ↦ [] | Some s ↦ s ∷ span_chain find most s.hi ]

-- they stand between two places, each behind the one before it
abbrev pub AreRisingSpans : ℕ → ℕ → List Span → Type 0
AreRisingSpans from to [] = Unit {0}
AreRisingSpans from to (s ∷ spans) = (from ≤ s.lo) × (s.lo ≤ s.hi) × (s.hi ≤ to) × AreRisingSpans s.hi to spans
