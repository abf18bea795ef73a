-- A content in as few lines as runs allow.
use Rattle.std.specs.Prelude.{ℕ, zero, suc, ◌+◌, ◌-◌, ◌&&◌, ◌==◌, Bool, nat_le, nat_lt, if◌then◌else◌, List, [], ◌∷◌, ◌++◌, map, length, Option, Some, None, option_and_then}
use Rattle.std.specs.List.{list_any}
use Rattle.std.specs.Option.{option_map_or}
use Rattle.std.specs.FinMap as finite_map
use Rattle.std.specs.FinSet as finite_set
use Rattle.rga_ops.specs.Identifier.{Identifier, is_id}
use Rattle.rga_ops.specs.Content.{Element, Content}
use Rattle.rga_ops.specs.Operations.{rising}
use Rattle.rga_ops.specs.declared.id.TheConstants.Id.{MAX_COUNTER}
use Rattle.rga_ops.specs.declared.op.Op.TheVariants.{Delete}
use Rattle.rga_lines.specs.declared.run.TheConstants.{MAX_RUN}
use Rattle.rga_lines.specs.declared.deletion_run.DeletionRun.{DeletionRun}
use Rattle.rga_lines.specs.Runs.{Stretch, stretch, next, deletion_run}
use Rattle.rga_lines.specs.Spelling.{line, deletion_run_line}
use Rattle.rga_lines.specs.Stream.{bytes_of_lines}
use Rattle.rga_exchange.specs.RunLines.{stretch_line}

-- ---- runs

-- the character of an insertion whose parent this is
abbrev pub character_below : Identifier → Element → Option ℕ
character_below parent x = if is_id x.parent parent then Some x.ch else None

-- the character of the insertion that goes on behind an identifier: it has the next counter and the same replica, and
-- that identifier as its parent; none has a counter above the greatest
abbrev pub next_character : Content → Identifier → Option ℕ
next_character c last = if nat_lt last.counter MAX_COUNTER then option_and_then (character_below last) (finite_map.get c.inserted (next last)) else None

-- the characters of the insertions that go on behind an identifier, at most so many
unfoldable pub going_on : Content → Identifier → ℕ → List ℕ
going_on c last zero = []
going_on c last (suc room) = option_map_or (λ ch. ch ∷ going_on c (next last) room) (next_character c last) []

-- the run that begins with an insertion: with those that go on behind it up to 4096 characters
abbrev pub run_of : Content → Identifier × Element → Stretch
run_of c e = stretch e.0 e.1.parent (e.1.ch ∷ going_on c e.0 (MAX_RUN - 1))

-- the identifier is one of so many of a replica with counters that rise by one, of which this is the first
abbrev pub is_among : Identifier → ℕ → Identifier → Bool
is_among first count id = (id.replica == first.replica) && (nat_le first.counter id.counter && nat_lt id.counter (first.counter + count))

-- whether the identifier is in one of the runs that begin with these, each with so many
abbrev pub is_in_some : {A : Type 0} → (A → Identifier) → (A → ℕ) → List A → Identifier → Bool
is_in_some name size begun id = list_any (λ x. is_among (name x) (size x) id) begun

-- those that begin a run, behind others that do: each that is in no run before it
abbrev pub beginnings : {A : Type 0} → (A → Identifier) → (A → ℕ) → List A → List A → List A
beginnings name size begun [] = []
beginnings name size begun (x ∷ xs) = if is_in_some name size begun (name x) then beginnings name size begun xs else x ∷ beginnings name size (x ∷ begun) xs

abbrev pub run_size : Content → Identifier × Element → ℕ
run_size c e = length (run_of c e).chars

abbrev pub run_beginnings : Content → List (Identifier × Element)
run_beginnings c = beginnings (λ (e : Identifier × Element). e.0) (run_size c) [] (finite_map.entries c.inserted)

-- the runs of a content, by rising first identifier
abbrev pub runs_of : Content → List Stretch
runs_of c = map (run_of c) (run_beginnings c)

-- ---- runs of deletions

-- whether the next identifier of the replica is deleted; none has a counter above the greatest
abbrev pub is_next_deleted : Content → Identifier → Bool
is_next_deleted c last = nat_lt last.counter MAX_COUNTER && finite_set.contains c.deleted (next last)

-- how many deletions go on behind an identifier, at most so many
unfoldable pub deletions_behind : Content → Identifier → ℕ → ℕ
deletions_behind c last zero = 0
deletions_behind c last (suc room) = if is_next_deleted c last then suc (deletions_behind c (next last) room) else 0

-- how many deletions a run has at most: 4096 where runs are asked for, and else one
abbrev pub most_deletions : Bool → ℕ
most_deletions dels = if dels then MAX_RUN else 1

-- the run that begins with a deletion: with those that go on behind it up to so many
abbrev pub deletion_run_of : Content → ℕ → Identifier → DeletionRun
deletion_run_of c most id = deletion_run id (suc (deletions_behind c id (most - 1)))

abbrev pub deletion_size : Content → ℕ → Identifier → ℕ
deletion_size c most id = (deletion_run_of c most id).count

abbrev pub deletion_beginnings : Content → ℕ → List Identifier
deletion_beginnings c most = beginnings (λ (id : Identifier). id) (deletion_size c most) [] (rising (finite_set.items c.deleted))

-- the runs of deletions of a content, by rising first identifier
abbrev pub deletion_runs : Content → ℕ → List DeletionRun
deletion_runs c most = map (deletion_run_of c most) (deletion_beginnings c most)

-- ---- lines

-- a run of one deletion is written as a deletion
abbrev pub deletion_line : DeletionRun → List ℕ
deletion_line r = if r.count == 1 then line (Delete r.id) else deletion_run_line r

-- the lines of the runs, and then those of the runs of deletions
abbrev pub compact_lines : Bool → Content → List (List ℕ)
compact_lines dels c = map stretch_line (runs_of c) ++ map deletion_line (deletion_runs c (most_deletions dels))

-- these lines, each with its newline
abbrev pub compact_text : Bool → Content → List ℕ
compact_text dels c = bytes_of_lines (compact_lines dels c)
