-- Motions: by characters, to ends, by lines and by words.
use Rattle.std.specs.Prelude.{ℕ, zero, suc, ◌+◌, ◌-◌, max, length, Result, Ok, Err, if◌then◌else◌, nat_le}
use Rattle.std.specs.Option.{option_map, ok_or}
use Rattle.mg_plain.specs.declared.view.Kind.{Kind}
use Rattle.mg_plain.specs.declared.view.Kind.TheVariants.{Plain, Killing, Vertical}
use Rattle.mg_plain.specs.declared.outcome.Notice.{Notice}
use Rattle.mg_plain.specs.declared.outcome.Notice.TheVariants.{BeginningOfBuffer, EndOfBuffer}
use Rattle.mg_plain.specs.declared.steps.Direction.{Direction}
use Rattle.mg_plain.specs.declared.steps.Direction.TheVariants.{Forward, Backward}
use Rattle.mg_plain.specs.declared.steps.Piece.TheVariants.{Line, Word}
use Rattle.mg_plain.specs.Situation.{Situation}
use Rattle.mg_plain.specs.Effect.{Effect, motion}
use Rattle.mg_plain.specs.LineEnds.{at_goal, line_begin, line_end}
use Rattle.mg_plain.specs.Steps.{step, steps, steps_up_to}

-- ---- by characters and to ends

abbrev pub forward_char : ℕ → Situation → Result Effect Notice
forward_char n s = if nat_le (s.point + n) (length s.text) then Ok (motion s (s.point + n)) else Err EndOfBuffer

abbrev pub backward_char : ℕ → Situation → Result Effect Notice
backward_char n s = if nat_le n s.point then Ok (motion s (s.point - n)) else Err BeginningOfBuffer

abbrev pub beginning_of_line : Situation → Effect
beginning_of_line s = motion s (line_begin s.text s.point)

abbrev pub end_of_line : Situation → Effect
end_of_line s = motion s (line_end s.text s.point)

abbrev pub beginning_of_buffer : Situation → Effect
beginning_of_buffer s = motion s 0

abbrev pub end_of_buffer : Situation → Effect
end_of_buffer s = motion s (length s.text)

-- ---- by words

-- what is answered where the text ends too soon
abbrev pub end_notice : Direction → Notice
end_notice Forward = EndOfBuffer
end_notice Backward = BeginningOfBuffer

abbrev pub by_words : Direction → ℕ → Situation → Result Effect Notice
by_words direction n s = ok_or (option_map (motion s) (steps (step Word direction s.text) n s.point)) (end_notice direction)

-- ---- by lines

-- the goal stays in a row of vertical motions; else it is the column of point
abbrev pub goal_of : Kind → Situation → ℕ
goal_of Vertical s = s.goal
goal_of Plain s = s.point - line_begin s.text s.point
goal_of Killing s = s.point - line_begin s.text s.point

abbrev pub vertical_motion : Situation → ℕ → Effect
vertical_motion s q = record (motion s q) { goal = goal_of s.last s; kind = Vertical }

-- to the line that begins there
abbrev pub to_line : Situation → ℕ → Effect
to_line s b = vertical_motion s (at_goal s.text b (goal_of s.last s))

-- `n` lines on or back; with the argument 0 point stays
abbrev pub by_lines : Direction → ℕ → Situation → Result Effect Notice
by_lines direction zero s = Ok (vertical_motion s s.point)
by_lines direction (suc n) s =
    ok_or (option_map (to_line s) (steps (step Line direction s.text) (suc n) (line_begin s.text s.point))) (end_notice direction)

-- two lines less than the window has, or as many as there are, but at least one
abbrev pub scroll : Direction → ℕ → Situation → Result Effect Notice
scroll direction rows s =
    ok_or
    (option_map
    (λ b. to_line s (steps_up_to (step Line direction s.text) (max 1 (rows - 2) - 1) b))
    (step Line direction s.text (line_begin s.text s.point)))
    (end_notice direction)
