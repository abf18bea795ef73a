-- Runs: insertions of one replica with rising counters, each after the one before it, and deletions of elements of one
-- replica with rising counters.
use Rattle.std.specs.Prelude.{◌≡◌, ℕ, zero, suc, ◌+◌, ◌<◌, ◌≤◌, true, List, [], ◌∷◌, length, refl}
use Rattle.std.specs.Coded.{Coded, code_by, coded×, coded_list, coded_ℕ}
use Rattle.rga_ops.specs.Identifier.{Identifier, identifier, identifier_code, is_in_range}
use Rattle.rga_ops.specs.declared.id.TheConstants.Id.{MAX_COUNTER}
use Rattle.rga_ops.specs.declared.op.Op.{Op}
use Rattle.rga_ops.specs.declared.op.Op.TheVariants.{Insert, Delete}
use Rattle.rga_lines.specs.declared.deletion_run.DeletionRun.{DeletionRun}

-- the most operations of a run
abbrev pub longest_run : ℕ
longest_run = 4096

-- what contracts see of a run: the identifier and the parent of its first character, and the characters
pub record Stretch : Type 0 where
  pub id : Identifier
  pub parent : Identifier
  pub chars : List ℕ

abbrev pub stretch : Identifier → Identifier → List ℕ → Stretch
stretch id parent chars = record { id = id; parent = parent; chars = chars }

abbrev pub stretch_code : Coded Stretch
stretch_code =
    code_by (Identifier × (Identifier × List ℕ)) (coded× identifier_code (coded× identifier_code (coded_list coded_ℕ)))
    (λ r. (r.id, (r.parent, r.chars)))
    (λ p. stretch p.0 p.1.0 p.1.1)
    (λ _. refl)

-- the next identifier of the same replica
abbrev pub next : Identifier → Identifier
next id = identifier (id.counter + 1) id.replica

abbrev pub run_operations : Identifier → Identifier → List ℕ → List Op
run_operations id parent [] = []
run_operations id parent (ch ∷ chars) = Insert id parent ch ∷ run_operations (next id) id chars

-- what a run stands for
abbrev pub stretch_operations : Stretch → List Op
stretch_operations r = run_operations r.id r.parent r.chars

-- There are 1 to 4096 characters, the last counter too is in range, and the first is above the parent's.
pub record IsRun (r : Stretch) : Type 0 where
  pub some : 0 < length r.chars
  pub few : length r.chars ≤ longest_run
  pub end : r.id.counter + length r.chars ≤ MAX_COUNTER + 1
  pub rising : r.parent.counter < r.id.counter

-- ---- runs of deletions

abbrev pub deletion_run : Identifier → ℕ → DeletionRun
deletion_run id count = record { id = id; count = count }

-- the deletions of so many elements, of which this is the first
abbrev pub deletions_from : Identifier → ℕ → List Op
deletions_from id zero = []
deletions_from id (suc count) = Delete id ∷ deletions_from (next id) count

-- what a run of deletions stands for
abbrev pub run_deletions : DeletionRun → List Op
run_deletions r = deletions_from r.id r.count

-- There are 1 to 4096 deletions, the first one is of an element, and the last counter too is in range.
pub record IsDeletionRun (r : DeletionRun) : Type 0 where
  pub element : is_in_range r.id.counter r.id.replica ≡ true
  pub some : 0 < r.count
  pub few : r.count ≤ longest_run
  pub end : r.id.counter + r.count ≤ MAX_COUNTER + 1
