-- Steps over lines and over words, one after the other.
use Rattle.std.specs.Prelude.{ℕ, zero, suc, List, Option, Some, None}
use Rattle.mg_plain.specs.declared.steps.Direction.{Direction}
use Rattle.mg_plain.specs.declared.steps.Piece.{Piece}
use Rattle.mg_plain.specs.declared.steps.Piece.TheVariants.{Line, Word}
use Rattle.mg_plain.specs.LineEnds.{line_step}
use Rattle.mg_plain.specs.Words.{word_step}

-- one piece on or back
abbrev pub step : Piece → Direction → List ℕ → ℕ → Option ℕ
step Line direction text q = line_step direction text q
step Word direction text q = word_step direction text q

-- `n` steps, where there are so many
abbrev pub steps : (ℕ → Option ℕ) → ℕ → ℕ → Option ℕ
steps step zero q = Some q
steps step (suc n) q = elim (step q) [ None ↦ None | Some m ↦ steps step n m ]

-- `n` steps, or as many as there are
abbrev pub steps_up_to : (ℕ → Option ℕ) → ℕ → ℕ → ℕ
steps_up_to step zero q = q
steps_up_to step (suc n) q = elim (step q) [ None ↦ q | Some m ↦ steps_up_to step n m ]
