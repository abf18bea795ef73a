-- A list of operations as lines in its order, in which neighbours that are a run stand in one.
use Rattle.std.specs.Prelude.{ℕ, zero, suc, ◌-◌, ◌&&◌, if◌then◌else◌, List, [], ◌∷◌, length, Option, Some, None}
use Rattle.std.specs.Option.{option_map_or}
use Rattle.rga_ops.specs.Identifier.{Identifier, is_id}
use Rattle.rga_ops.specs.declared.op.Op.{Op}
use Rattle.rga_ops.specs.declared.op.Op.TheVariants.{Insert, Delete}
use Rattle.rga_lines.specs.declared.run.TheConstants.{MAX_RUN}
use Rattle.rga_lines.specs.Runs.{Stretch, stretch, next}
use Rattle.rga_lines.specs.Spelling.{line, run_line}
use Rattle.rga_lines.specs.Stream.{bytes_of_lines}

-- the line of a run; one of a single insertion is written as that
abbrev pub shortest_line : Identifier → Identifier → List ℕ → List ℕ
shortest_line id parent [] = []
shortest_line id parent (ch ∷ []) = line (Insert id parent ch)
shortest_line id parent (ch ∷ d ∷ chars) = run_line (stretch id parent (ch ∷ d ∷ chars))

abbrev pub stretch_line : Stretch → List ℕ
stretch_line r = shortest_line r.id r.parent r.chars

-- what an insertion that goes on behind an identifier has, its own identifier and its character: it has the next counter
-- and the same replica, and that identifier as its parent
abbrev pub going_behind : Identifier → Op → Option (Identifier × ℕ)
going_behind last (Insert id parent ch) = if is_id id (next last) && is_id parent last then Some (id, ch) else None
going_behind last (Delete id) = None

-- the characters of the insertions in front that go on behind an identifier, at most so many
unfoldable pub front_characters : Identifier → ℕ → List Op → List ℕ
front_characters last zero ops = []
front_characters last (suc room) [] = []
front_characters last (suc room) (op ∷ ops) = option_map_or (λ p. p.1 ∷ front_characters p.0 room ops) (going_behind last op) []

-- the run that begins with an insertion before these operations, up to 4096 characters
abbrev pub front_run : Identifier → Identifier → ℕ → List Op → Stretch
front_run id parent ch ops = stretch id parent (ch ∷ front_characters id (MAX_RUN - 1) ops)

-- the line that begins with an operation before these, and how many of them it has beside
abbrev pub front_line : Op → List Op → List ℕ
front_line (Insert id parent ch) ops = stretch_line (front_run id parent ch ops)
front_line (Delete id) ops = line (Delete id)

abbrev pub front_count : Op → List Op → ℕ
front_count (Insert id parent ch) ops = length (front_characters id (MAX_RUN - 1) ops)
front_count (Delete id) ops = 0

-- the lines of operations, the first n of which are in a line before
abbrev pub run_lines_behind : ℕ → List Op → List (List ℕ)
run_lines_behind n [] = []
run_lines_behind zero (op ∷ ops) = front_line op ops ∷ run_lines_behind (front_count op ops) ops
run_lines_behind (suc n) (op ∷ ops) = run_lines_behind n ops

abbrev pub run_lines : List Op → List (List ℕ)
run_lines ops = run_lines_behind 0 ops

-- these lines, each with its newline
abbrev pub runs_text : List Op → List ℕ
runs_text ops = bytes_of_lines (run_lines ops)
