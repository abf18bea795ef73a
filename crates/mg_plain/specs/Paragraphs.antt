-- Paragraphs, and the words that filling lays out: greatest runs of what is neither space nor tab nor newline.
use Rattle.std.specs.Prelude.{◌≡◌, ℕ, ◌+◌, ◌-◌, ◌<◌, ◌≤◌, ◌⊎◌, ◌&&◌, ◌||◌, not, Bool, true, false, List, length, Option, nat_eq, nat_lt}
use Rattle.std.specs.List.{slice_index}
use Rattle.std.specs.Option.{is_some, option_map}
use Rattle.mg_plain.specs.Scans.{least, least_from, greatest_up_to}
use Rattle.mg_plain.specs.Spans.{Span, span_chain}
use Rattle.mg_plain.specs.Characters.{is_blank, is_newline}
use Rattle.mg_plain.specs.LineEnds.{begins_line, line_begin, line_end}

-- neither space nor tab nor newline stands there, nor does the text end
abbrev pub is_nonblank : List ℕ → ℕ → Bool
is_nonblank text q = nat_lt q (length text) && not (is_blank (slice_index text q) || is_newline (slice_index text q))

-- ---- paragraphs

-- something besides spaces and tabs stands in the rest of the line
abbrev pub has_nonblank : List ℕ → ℕ → Bool
has_nonblank text q = is_some (least (is_nonblank text) q (line_end text q - q))

-- a greatest run of lines that hold something begins there
abbrev pub begins_paragraph : List ℕ → ℕ → Bool
begins_paragraph text q = begins_line text q && (nat_eq q 0 || not (has_nonblank text (line_begin text (q - 1))))

-- such a run ends there
abbrev pub ends_paragraph : List ℕ → ℕ → Bool
ends_paragraph text q = is_newline (slice_index text q) && not (has_nonblank text (q + 1))

-- the paragraph round a line that holds something
abbrev pub paragraph : List ℕ → ℕ → Span
paragraph text q = record { lo = greatest_up_to (begins_paragraph text) q; hi = least_from (ends_paragraph text) q (length text) }

-- ---- words

-- the word that begins there, up to the bound at most
abbrev pub word_at : List ℕ → ℕ → ℕ → Span
word_at text hi b = record { lo = b; hi = least_from (λ k. not (is_nonblank text k)) b hi }

-- the first word from a place on, below the bound
abbrev pub next_word : List ℕ → ℕ → ℕ → Option Span
next_word text hi q = option_map (word_at text hi) (least (is_nonblank text) q (hi - q))

abbrev pub words : List ℕ → ℕ → ℕ → List Span
words text lo hi = span_chain (next_word text hi) (length text) lo

-- ---- in words

-- a greatest run of nonblank characters between two places
pub record IsWord (text : List ℕ) (lo hi : ℕ) (w : Span) : Type 0 where
  pub from : lo ≤ w.lo
  pub some : w.lo < w.hi
  pub up_to : w.hi ≤ hi
  pub nonblank : (k : ℕ) → w.lo ≤ k → k < w.hi → is_nonblank text k ≡ true
  pub begins : (w.lo ≡ lo) ⊎ (is_nonblank text (w.lo - 1) ≡ false)
  pub ends : (w.hi ≡ hi) ⊎ (is_nonblank text w.hi ≡ false)
