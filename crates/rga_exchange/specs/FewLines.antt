-- What the lines of a log and the first operations of compacted lines have to do with each other.
use Rattle.std.specs.Prelude.{ℕ, Bool, List, [], ◌∷◌, ◌++◌, map, Result, Ok, Err, Contains}
use Rattle.std.specs.List.{AllByRecursion}
use Rattle.rga_ops.specs.Content.{Content}
use Rattle.rga_ops.specs.Operations.{insertion_of}
use Rattle.rga_ops.specs.declared.op.Op.{Op}
use Rattle.rga_ops.specs.declared.op.Op.TheVariants.{Delete}
use Rattle.rga_lines.specs.Log.{operations_at}
use Rattle.rga_lines.specs.declared.fault.LineFault.{LineFault}
use Rattle.rga_exchange.specs.Compacting.{run_beginnings, most_deletions, deletion_beginnings}

-- the first operations of the lines to which a content is compacted
abbrev pub first_operations : Bool → Content → List Op
first_operations dels c = map insertion_of (run_beginnings c) ++ map Delete (deletion_beginnings c (most_deletions dels))

abbrev pub said : Result (List Op) LineFault → List Op
said (Ok ops) = ops
said (Err e) = []

-- the line stands for the operation, with others or alone
abbrev pub Says : List ℕ → Op → Type 0
Says line op = Contains (said (operations_at line)) op

-- no line stands for both
abbrev pub AreApart : List (List ℕ) → Op → Op → Type 0
AreApart lines a b = AllByRecursion (λ line. Says line a → Says line b → ⊥) lines

-- no line stands for two of the operations
abbrev pub AllApart : List (List ℕ) → List Op → Type 0
AllApart lines [] = Unit {0}
AllApart lines (op ∷ ops) = AllByRecursion (AreApart lines op) ops × AllApart lines ops
