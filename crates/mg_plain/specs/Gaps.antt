-- The words of a paragraph, put into lines.
use Rattle.std.specs.Prelude.{ℕ, ◌+◌, ◌-◌, not, Bool, List, [], ◌∷◌, reverse, Option, Some, None, if◌then◌else◌, nat_eq, nat_le}
use Rattle.std.specs.List.{slice_range, filter}
use lib.Pointwise.{pointwise}
use Rattle.rga_ops.specs.Splice.{Splice}
use Rattle.mg_plain.specs.Spans.{Span}
use Rattle.mg_plain.specs.Situation.{Situation}
use Rattle.mg_plain.specs.Effect.{Effect, edit_effect}
use Rattle.mg_plain.specs.Splices.{splice}
use Rattle.mg_plain.specs.Characters.{space, newline_character}
use Rattle.mg_plain.specs.LineEnds.{line_begin}
use Rattle.mg_plain.specs.Paragraphs.{has_nonblank, paragraph, words}

-- whether a word goes into the line, behind so many columns and one space
abbrev pub fits : ℕ → ℕ → Span → Bool
fits column used w = nat_le (used + 1 + (w.hi - w.lo)) column

-- what belongs before a word, where its line has so many columns already: nothing before the first one, else a space
-- where the word fits, else a newline
abbrev pub joint : ℕ → Option ℕ → Span → List ℕ
joint column None w = []
joint column (Some used) w = (if fits column used w then space else newline_character) ∷ []

-- how many columns its line has at its end
abbrev pub columns : ℕ → Option ℕ → Span → ℕ
columns column None w = w.hi - w.lo
columns column (Some used) w = if fits column used w then used + 1 + (w.hi - w.lo) else w.hi - w.lo

-- what belongs before each word, and nothing behind the last one, up to the end of the paragraph
abbrev pub gaps : ℕ → Option ℕ → ℕ → ℕ → List Span → List Splice
gaps column used at end [] = splice at end [] ∷ []
gaps column used at end (w ∷ ws) = splice at w.lo (joint column used w) ∷ gaps column (Some (columns column used w)) w.hi end ws

-- something else stands there
abbrev pub alters : List ℕ → Splice → Bool
alters text s = not (pointwise nat_eq (slice_range text s.lo s.hi) s.put)

-- the gaps that are not just what they should be, falling
abbrev pub filling : ℕ → List ℕ → Span → List Splice
filling column text p = reverse (filter (alters text) (gaps column None p.lo p.hi (words text p.lo p.hi)))

-- on a line that holds nothing but spaces and tabs nothing is done
abbrev pub paragraph_filling : ℕ → List ℕ → ℕ → List Splice
paragraph_filling column text point = if has_nonblank text (line_begin text point) then filling column text (paragraph text point) else []

abbrev pub fill_paragraph : ℕ → Situation → Effect
fill_paragraph column s = edit_effect s (paragraph_filling column s.text s.point)
