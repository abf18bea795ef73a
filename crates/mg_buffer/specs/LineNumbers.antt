-- The line of a place, and what splices leave of a text before a place.
use Rattle.std.specs.Prelude.{ℕ, List, [], ◌∷◌, min, take, count_by}
use Rattle.rga_ops.specs.Splice.{Splice}
use Rattle.mg_plain.specs.Characters.{is_newline}

-- the line in which a place stands, from 0: how many newlines stand before it
abbrev pub line_of : List ℕ → ℕ → ℕ
line_of text place = count_by is_newline (take place text)

-- the least of a place and of those at which splices begin
abbrev pub least_begin : ℕ → List Splice → ℕ
least_begin place [] = place
least_begin place (s ∷ splices) = least_begin (min place s.lo) splices
