-- The deletions of a run, made one after another.
use Rattle.rga_lines.proofs.Prelude.{◌≡◌, ℕ, ◌-◌, ◌<◌, List, [], ◌∷◌, ◌++◌, arith, append_assoc, Identifier, Op, Delete, next, deletions_from}

-- one deletion more behind those before it
pub next_deletion : (before : List Op) (id : Identifier) (count : ℕ) → 0 < count → before ++ deletions_from id count ≡ (before ++ Delete id ∷ []) ++ deletions_from (next id) (count - 1)
next_deletion before id count h = grind (arith, append_assoc, deletions_from, next)
