-- Situations for worked examples, and what is told of them.
use Rattle.std.specs.Prelude.{ℕ, List, [], ◌∷◌, ◌++◌, None, Some, Result, Ok, Err, codes}
use Rattle.rga_ops.specs.Splice.{Splice, text_after}
use Rattle.mg_plain.specs.declared.view.Kind.TheVariants.{Plain, Killing}
use Rattle.mg_plain.specs.declared.outcome.Notice.{Notice}
use Rattle.mg_plain.specs.Situation.{Situation}
use Rattle.mg_plain.specs.Characters.{newline_character}
use Rattle.mg_plain.specs.Effect.{Effect, motion}
use Rattle.mg_plain.specs.Kills.{kill_after}

abbrev pub plain_view : List ℕ → ℕ → Situation
plain_view text point = record { text = text; point = point; mark = None; kill = []; goal = 0; last = Plain }

-- the text and the point that an effect leaves
pub record TextAndPoint : Type 0 where
  pub text : List ℕ
  pub point : ℕ

abbrev pub text_and_point : List ℕ → ℕ → TextAndPoint
text_and_point text point = record { text = text; point = point }

abbrev pub outcome : Situation → Result Effect Notice → Result TextAndPoint Notice
outcome s (Ok e) = Ok (text_and_point (text_after s.text e.splices) e.point)
outcome s (Err n) = Err n

abbrev pub point_of : Result Effect Notice → Result ℕ Notice
point_of (Ok e) = Ok e.point
point_of (Err n) = Err n

-- the mark is at point, and the command before killed
abbrev pub after_kill : Situation → List ℕ → Situation
after_kill s kill = record s { mark = Some s.point; kill = kill; last = Killing }

-- the kill buffer that an effect leaves
abbrev pub kill_buffer : Situation → Result Effect Notice → Result (List ℕ) Notice
kill_buffer s (Ok e) = Ok (kill_after s.last s.kill e.kind e.kill)
kill_buffer s (Err n) = Err n

-- a kill from point on: the mark is at point too
abbrev pub kill_of : Situation → Splice → List ℕ → Effect
kill_of s one kill = record (motion s s.point) { splices = one ∷ []; mark = Some s.point; kill = Some kill; kind = Killing }

-- two lines with a short one between
abbrev pub short_line : List ℕ
short_line = codes "abcd" ++ newline_character ∷ codes "x" ++ newline_character ∷ codes "abcd"

abbrev pub five_lines : List ℕ
five_lines = codes "a" ++ newline_character ∷ codes "b" ++ newline_character ∷ codes "c" ++ newline_character ∷ codes "d" ++ newline_character ∷ codes "e"
