-- Which lines of a mended log a note has room for: it knows at most 1,000,000 identifiers.
use Rattle.std.specs.Prelude.{ℕ, ◌+◌, Bool, is_ok, not, if◌then◌else◌, List, [], ◌∷◌, ◌++◌}
use Rattle.rga_ops.specs.Content.{Content, nothing, join, content_of}
use Rattle.rga_ops.specs.ListAnswer.{list_answer}
use Rattle.rga_lines.specs.Stream.{newline, lines_of, rest_of}
use Rattle.mgr_mend.specs.Mending.{line_operations, mended, refused_of, left_out_of, one_if}
use Rattle.mgr_mend.specs.declared.mended.LeftOut.{LeftOut}

-- the lines of a log; a rest counts as one, if there is any
abbrev pub rest_line : List ℕ → List (List ℕ)
rest_line [] = []
rest_line (b ∷ bytes) = (b ∷ bytes) ∷ []

abbrev pub note_lines : List ℕ → List (List ℕ)
note_lines log = lines_of log ++ rest_line (rest_of log)

-- ---- one line, at a note that has this content

-- the note takes all operations of the line
abbrev pub fits : Content → List ℕ → Bool
fits c line = is_ok (list_answer 1000000 c (line_operations line))

-- what the note has then: a line that does not fit is left out whole
abbrev pub after_line : Content → List ℕ → Content
after_line c line = if fits c line then join c (content_of (line_operations line)) else c

-- the line with a newline, where it stays
abbrev pub line_if : Bool → List ℕ → List ℕ
line_if test line = if test then line ++ newline ∷ [] else []

-- ---- lines in turn

-- those that stay
abbrev pub fitting : Content → List (List ℕ) → List ℕ
fitting c [] = []
fitting c (line ∷ lines) = line_if (fits c line) line ++ fitting (after_line c line) lines

-- those that do not
abbrev pub excess : Content → List (List ℕ) → List ℕ
excess c [] = []
excess c (line ∷ lines) = line_if (not (fits c line)) line ++ excess (after_line c line) lines

-- and how many these are
abbrev pub excess_count : Content → List (List ℕ) → ℕ
excess_count c [] = 0
excess_count c (line ∷ lines) = one_if (not (fits c line)) + excess_count (after_line c line) lines

-- ---- the whole log

-- what the log of a note is written anew as: each line ends in a newline
abbrev pub fitted : List ℕ → List ℕ
fitted bytes = fitting nothing (note_lines (mended bytes))

-- All that is left out: the lines for which there is no room, and then what mending leaves out, whose last line may be
-- cut off.
abbrev pub all_refused : List ℕ → List ℕ
all_refused bytes = excess nothing (note_lines (mended bytes)) ++ refused_of bytes

abbrev pub with_excess : ℕ → LeftOut → LeftOut
with_excess n left = record { faulty = left.faulty; beaten = left.beaten; torn = left.torn; excess = n }

abbrev pub all_left_out : List ℕ → LeftOut
all_left_out bytes = with_excess (excess_count nothing (note_lines (mended bytes))) (left_out_of bytes)
