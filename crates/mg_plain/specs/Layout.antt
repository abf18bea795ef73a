-- What filling keeps and what it makes, in words.
use Rattle.std.specs.Prelude.{◌≡◌, ℕ, ◌+◌, ◌-◌, ◌<◌, ◌≤◌, ◌⊎◌, false, List, [], ◌∷◌, ◌++◌, length, take, drop, replicate, sum}
use Rattle.rga_ops.specs.Splice.{Splice}
use Rattle.mg_plain.specs.Spans.{Span}
use Rattle.mg_plain.specs.Characters.{space, newline_character}
use Rattle.mg_plain.specs.Paragraphs.{is_nonblank}

-- a splice that touches no word: spaces, tabs and newlines become one space, one newline or nothing
pub record IsOfBlanks (text : List ℕ) (s : Splice) : Type 0 where
  pub gone : (k : ℕ) → s.lo ≤ k → k < s.hi → is_nonblank text k ≡ false
  pub put : (s.put ≡ []) ⊎ ((s.put ≡ space ∷ []) ⊎ (s.put ≡ newline_character ∷ []))

abbrev pub AreOfBlanks : List ℕ → List Splice → Type 0
AreOfBlanks text [] = Unit {0}
AreOfBlanks text (s ∷ splices) = IsOfBlanks text s × AreOfBlanks text splices

-- ---- layouts

-- the columns of a line of words of such lengths, with one space between
abbrev pub line_width : List ℕ → ℕ
line_width lengths = sum lengths + (length lengths - 1)

-- the first `n` of the words are a line: at least one; not past the column, unless it is one word; and with the next
-- word it would be past it
pub record IsLine (column : ℕ) (lengths : List ℕ) (n : ℕ) : Type 0 where
  pub some : 0 < n
  pub within : n ≤ length lengths
  pub fits : (n ≡ 1) ⊎ (line_width (take n lengths) ≤ column)
  pub full : n < length lengths → column < line_width (take (n + 1) lengths)

-- the words are laid out in lines of so many words
abbrev pub IsLayout : ℕ → List ℕ → List ℕ → Type 0
IsLayout column lengths [] = lengths ≡ []
IsLayout column lengths (n ∷ ns) = IsLine column lengths n × IsLayout column (drop n lengths) ns

-- what such a layout puts before each word: a newline before the first one of a line, a space before the others
abbrev pub line_joints : List ℕ → List (List ℕ)
line_joints [] = []
line_joints (n ∷ ns) = (newline_character ∷ []) ∷ replicate (n - 1) (space ∷ []) ++ line_joints ns

-- before the first one of all nothing
abbrev pub layout_joints : List ℕ → List (List ℕ)
layout_joints [] = []
layout_joints (n ∷ ns) = [] ∷ replicate (n - 1) (space ∷ []) ++ line_joints ns

abbrev pub word_length : Span → ℕ
word_length w = w.hi - w.lo

abbrev pub put_of : Splice → List ℕ
put_of s = s.put
