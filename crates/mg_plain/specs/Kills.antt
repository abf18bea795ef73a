-- Deletions, and kills, which keep what they take.
use Rattle.std.specs.Prelude.{ℕ, ◌+◌, ◌-◌, ◌&&◌, Bool, true, false, List, [], ◌++◌, length, min, max, Option, Some, None, Result, Ok, Err, if◌then◌else◌, nat_le, nat_lt}
use Rattle.std.specs.Option.{option_map_or}
use Rattle.std.specs.List.{slice_range}
use Rattle.mg_plain.specs.declared.view.Kind.{Kind}
use Rattle.mg_plain.specs.declared.view.Kind.TheVariants.{Plain, Killing, Vertical}
use Rattle.mg_plain.specs.declared.outcome.Notice.{Notice}
use Rattle.mg_plain.specs.declared.outcome.Notice.TheVariants.{BeginningOfBuffer, EndOfBuffer, NoMark}
use Rattle.mg_plain.specs.Situation.{Situation}
use Rattle.mg_plain.specs.Effect.{Effect, one_splice, edit_effect}
use Rattle.mg_plain.specs.LineEnds.{line_end}
use Rattle.mg_plain.specs.Words.{word_end}

abbrev pub deletion_effect : Situation → ℕ → ℕ → Effect
deletion_effect s lo hi = edit_effect s (one_splice lo hi [])

abbrev pub delete_char : ℕ → Situation → Result Effect Notice
delete_char n s = if nat_le (s.point + n) (length s.text) then Ok (deletion_effect s s.point (s.point + n)) else Err EndOfBuffer

abbrev pub delete_backward_char : ℕ → Situation → Result Effect Notice
delete_backward_char n s = if nat_le n s.point then Ok (deletion_effect s (s.point - n) s.point) else Err BeginningOfBuffer

abbrev pub kill_effect : Situation → ℕ → ℕ → Effect
kill_effect s lo hi = record (deletion_effect s lo hi) { kill = Some (slice_range s.text lo hi); kind = Killing }

-- from point to a place behind it, of which there is none at the end of the text
abbrev pub kill_up_to : Situation → ℕ → Result Effect Notice
kill_up_to s hi = if nat_lt s.point (length s.text) then Ok (kill_effect s s.point hi) else Err EndOfBuffer

-- the rest of the line, or the newline where point stands at one
abbrev pub kill_line : Situation → Result Effect Notice
kill_line s = kill_up_to s (max (line_end s.text s.point) (s.point + 1))

abbrev pub kill_word : Situation → Result Effect Notice
kill_word s = kill_up_to s (word_end s.text s.point)

abbrev pub kill_region : Situation → Result Effect Notice
kill_region s = elim s.mark [ None ↦ Err NoMark | Some m ↦ Ok (kill_effect s (min s.point m) (max s.point m)) ]

-- ---- the kill buffer

abbrev pub is_kill : Kind → Bool
is_kill Killing = true
is_kill Plain = false
is_kill Vertical = false

-- what a command of this kind leaves of the kill buffer before what it puts in: all, where the command before killed too
-- and this one does
abbrev pub kill_so_far : Kind → List ℕ → Kind → List ℕ
kill_so_far last kill kind = if is_kill last && is_kill kind then kill else []

-- the kill buffer after a command of this kind that puts in these characters, if any
abbrev pub kill_after : Kind → List ℕ → Kind → Option (List ℕ) → List ℕ
kill_after last kill kind chars = option_map_or (λ cs. kill_so_far last kill kind ++ cs) chars kill
