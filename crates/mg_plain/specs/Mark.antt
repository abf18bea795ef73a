-- The mark, and the region between it and point.
use Rattle.std.specs.Prelude.{ℕ, length, min, max, Some, None, Result, Ok, Err}
use Rattle.std.specs.List.{slice_range}
use Rattle.mg_plain.specs.declared.outcome.Notice.{Notice}
use Rattle.mg_plain.specs.declared.outcome.Notice.TheVariants.{NoMark}
use Rattle.mg_plain.specs.Situation.{Situation}
use Rattle.mg_plain.specs.Effect.{Effect, motion}

abbrev pub point_and_mark : Situation → ℕ → ℕ → Effect
point_and_mark s point mark = record (motion s point) { mark = Some mark }

abbrev pub set_mark_command : Situation → Effect
set_mark_command s = point_and_mark s s.point s.point

abbrev pub exchange_point_and_mark : Situation → Result Effect Notice
exchange_point_and_mark s = elim s.mark [ None ↦ Err NoMark | Some m ↦ Ok (point_and_mark s m s.point) ]

abbrev pub mark_whole_buffer : Situation → Effect
mark_whole_buffer s = point_and_mark s 0 (length s.text)

-- these characters become the kill buffer
abbrev pub copy_effect : Situation → ℕ → ℕ → Effect
copy_effect s lo hi = record (motion s s.point) { kill = Some (slice_range s.text lo hi) }

abbrev pub copy_region_as_kill : Situation → Result Effect Notice
copy_region_as_kill s = elim s.mark [ None ↦ Err NoMark | Some m ↦ Ok (copy_effect s (min s.point m) (max s.point m)) ]
