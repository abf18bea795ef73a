-- The operations of an exchange, and of a log.
use Rattle.std.specs.Prelude.{◌≡◌, ◌⊎◌, ℕ, Bool, true, false, if◌then◌else◌, List, [], ◌∷◌, ◌++◌, Result, Ok, Err}
use Rattle.std.specs.List.{AllByRecursion}
use Rattle.rga_ops.specs.declared.op.Op.{Op}
use Rattle.rga_lines.specs.Runs.{Stretch, stretch_operations, run_deletions}
use Rattle.rga_lines.specs.declared.line.Line.TheVariants.{One, Run, Deletions, Head, Last}
use Rattle.rga_lines.specs.declared.fault.LineFault.{LineFault}
use Rattle.rga_lines.specs.declared.fault.LineFault.TheVariants.{Kind}
use Rattle.rga_lines.specs.Table.{AnyReading, any_line_at}
use Rattle.rga_lines.specs.Stream.{lines_of, rest_of}

-- the operations that a line stands for; the head and the end of an exchange are lines of another kind
abbrev pub operations_in : AnyReading → Result (List Op) LineFault
operations_in (Ok (One op)) = Ok (op ∷ [])
operations_in (Ok (Run r)) = Ok (stretch_operations r)
operations_in (Ok (Deletions r)) = Ok (run_deletions r)
operations_in (Ok Head) = Err Kind
operations_in (Ok (Last number)) = Err Kind
operations_in (Err e) = Err e

-- the line is that of a run of these insertions
abbrev pub SaysRun : List ℕ → List Op → Type 0
SaysRun line ops = (r : Stretch) × (any_line_at line ≡ Ok (Run r)) × (ops ≡ stretch_operations r)

unfoldable pub operations_at : List ℕ → Result (List Op) LineFault
operations_at bytes = operations_in (any_line_at bytes)

-- no line counts behind one that stands for none
abbrev pub then_operations : Result (List Op) LineFault → List Op → List Op
then_operations (Ok ops) more = ops ++ more
then_operations (Err e) more = []

-- the operations of lines up to the first line that stands for none
abbrev pub operations_of : List (List ℕ) → List Op
operations_of [] = []
operations_of (line ∷ lines) = then_operations (operations_at line) (operations_of lines)

-- whether a line says the head of an exchange
abbrev pub is_head : AnyReading → Bool
is_head (Ok (One op)) = false
is_head (Ok (Run r)) = false
is_head (Ok (Deletions r)) = false
is_head (Ok Head) = true
is_head (Ok (Last number)) = false
is_head (Err e) = false

-- the lines of an exchange behind its head, where the first one says one
abbrev pub behind_head : List (List ℕ) → List (List ℕ)
behind_head [] = []
behind_head (line ∷ lines) = if is_head (any_line_at line) then lines else line ∷ lines

-- The operations of an exchange: those of its lines, where the head as the first one stands for none. Its rest never
-- counts.
abbrev pub stream_operations : List ℕ → List Op
stream_operations bytes = operations_of (behind_head (lines_of bytes))

-- Those of the lines and, where every line is an operation, also that of the rest where the rest is one. An empty rest
-- is no operation.
abbrev pub log_operations : List ℕ → List Op
log_operations bytes = operations_of (lines_of bytes ++ rest_of bytes ∷ [])

-- the line stands for operations
abbrev pub IsOperation : List ℕ → Type 0
IsOperation line = (ops : List Op) × (operations_at line ≡ Ok ops)

-- each line of the log is an operation, and so is its rest, or there is none
pub record HasOnlyOperations (bytes : List ℕ) : Type 0 where
  pub lines : AllByRecursion IsOperation (lines_of bytes)
  pub rest : (rest_of bytes ≡ []) ⊎ IsOperation (rest_of bytes)
