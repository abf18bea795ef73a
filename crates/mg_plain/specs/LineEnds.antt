-- Lines of a text.
use Rattle.std.specs.Prelude.{ℕ, ◌+◌, ◌-◌, ◌||◌, Bool, List, length, min, Option, Some, None, if◌then◌else◌, nat_eq, nat_lt}
use Rattle.std.specs.List.{slice_index}
use Rattle.mg_plain.specs.declared.steps.Direction.{Direction}
use Rattle.mg_plain.specs.declared.steps.Direction.TheVariants.{Forward, Backward}
use Rattle.mg_plain.specs.Scans.{least_from, greatest_up_to}
use Rattle.mg_plain.specs.Characters.{is_newline}

-- a line begins at 0 and behind a newline
abbrev pub begins_line : List ℕ → ℕ → Bool
begins_line text q = nat_eq q 0 || is_newline (slice_index text (q - 1))

-- a line ends at a newline, and at the end of the text
abbrev pub line_begin : List ℕ → ℕ → ℕ
line_begin text q = greatest_up_to (begins_line text) q

abbrev pub line_end : List ℕ → ℕ → ℕ
line_end text q = least_from (λ k. is_newline (slice_index text k)) q (length text)

-- from the begin of a line to the begin of the next one or of the one before
abbrev pub line_step : Direction → List ℕ → ℕ → Option ℕ
line_step Forward text b = if nat_lt (line_end text b) (length text) then Some (line_end text b + 1) else None
line_step Backward text b = if nat_eq b 0 then None else Some (line_begin text (b - 1))

-- the place that a goal asks for in the line that begins there
abbrev pub at_goal : List ℕ → ℕ → ℕ → ℕ
at_goal text b goal = b + min goal (line_end text b - b)
