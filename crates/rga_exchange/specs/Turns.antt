-- The compacted lines of a content, operation by operation.
use Rattle.std.specs.Prelude.{ℕ, ◌+◌, ◌==◌, Bool, nat_lt, if◌then◌else◌, List, [], ◌∷◌, ◌++◌}
use Rattle.rga_ops.specs.Identifier.{Identifier}
use Rattle.rga_ops.specs.Content.{element, Content}
use Rattle.rga_ops.specs.declared.op.Op.{Op}
use Rattle.rga_ops.specs.declared.op.Op.TheVariants.{Insert, Delete}
use Rattle.rga_exchange.specs.RunLines.{stretch_line}
use Rattle.rga_exchange.specs.Compacting.{run_of, run_size, deletion_run_of, deletion_size, deletion_line}

-- The counter behind the last run of each replica tells whether an identifier, behind all that these runs begin with, is in
-- one of them.
abbrev pub covers : (ℕ → ℕ) → Identifier → Bool
covers ends id = nat_lt id.counter (ends id.replica)

-- where they end with one more, of so many
abbrev pub ends_with : (ℕ → ℕ) → Identifier → ℕ → ℕ → ℕ
ends_with ends id size replica = if replica == id.replica then id.counter + size else ends replica

-- where the runs end behind an operation, and where the runs of deletions do
abbrev pub ends_behind : Content → (ℕ → ℕ) → Op → ℕ → ℕ
ends_behind c ends (Insert id parent ch) = if covers ends id then ends else ends_with ends id (run_size c (id, element parent ch))
ends_behind c ends (Delete id) = ends

abbrev pub deleted_behind : Content → ℕ → (ℕ → ℕ) → Op → ℕ → ℕ
deleted_behind c most deleted (Insert id parent ch) = deleted
deleted_behind c most deleted (Delete id) = if covers deleted id then deleted else ends_with deleted id (deletion_size c most id)

-- the line that comes for an operation, or none
abbrev pub lines_at : Content → ℕ → (ℕ → ℕ) → (ℕ → ℕ) → Op → List (List ℕ)
lines_at c most ends deleted (Insert id parent ch) = if covers ends id then [] else stretch_line (run_of c (id, element parent ch)) ∷ []
lines_at c most ends deleted (Delete id) = if covers deleted id then [] else deletion_line (deletion_run_of c most id) ∷ []

-- the lines that come for operations in turn
abbrev pub lines_from : Content → ℕ → (ℕ → ℕ) → (ℕ → ℕ) → List Op → List (List ℕ)
lines_from c most ends deleted [] = []
lines_from c most ends deleted (op ∷ ops) = lines_at c most ends deleted op ++ lines_from c most (ends_behind c ends op) (deleted_behind c most deleted op) ops
