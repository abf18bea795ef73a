-- Insertions at point.
use Rattle.std.specs.Prelude.{ℕ, ◌+◌, List, ◌∷◌, length, replicate, Some}
use Rattle.std.specs.List.{slice_range, take_while}
use Rattle.mg_plain.specs.Situation.{Situation}
use Rattle.mg_plain.specs.Effect.{Effect, one_splice, edit_effect}
use Rattle.mg_plain.specs.Characters.{newline_character, is_blank}
use Rattle.mg_plain.specs.LineEnds.{line_begin}

-- characters stand at point; the mark is carried
abbrev pub insertion_effect : Situation → List ℕ → Effect
insertion_effect s put = edit_effect s (one_splice s.point s.point put)

-- and point goes behind them
abbrev pub typing : Situation → List ℕ → Effect
typing s put = record (insertion_effect s put) { point = s.point + length put }

-- the run of spaces and tabs at the begin of point's line, cut at point
abbrev pub indentation : Situation → List ℕ
indentation s = take_while is_blank (slice_range s.text (line_begin s.text s.point) s.point)

abbrev pub insert : ℕ → ℕ → Situation → Effect
insert ch n s = typing s (replicate n ch)

abbrev pub open_line : ℕ → Situation → Effect
open_line n s = insertion_effect s (replicate n newline_character)

abbrev pub newline_and_indent : Situation → Effect
newline_and_indent s = typing s (newline_character ∷ indentation s)

-- the kill buffer stands at point, the mark at its begin
abbrev pub yank : Situation → Effect
yank s = record (typing s s.kill) { mark = Some s.point }
