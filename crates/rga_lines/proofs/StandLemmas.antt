-- What a line stands for: the operations of a log and of a stream.
use Rattle.rga_lines.proofs.Prelude.{◌≡◌, ℕ, ◌<◌, ◌^◌, List, [], ◌∷◌, ◌++◌, length, Result, Ok, Err, refl, ap, arith, AllByRecursion, checked, Op, One, Run, Deletions, Last, MAX_LINE, LineFault, DeletionRun, Stretch}
use Rattle.rga_lines.proofs.Prelude.{stretch_operations, run_deletions, IsDeletionRun, line, deletion_run_line, IsWritable, IsWritableRun, AnyReading, any_line_at}
use Rattle.rga_lines.specs.Spelling.{run_line, end_line}
use Rattle.rga_lines.specs.Log.{operations_in, operations_at}
use Rattle.rga_lines.proofs.ReadingLemmas.{too_long, refused, any_well_formed, any_run, any_deletions}
use Rattle.rga_lines.proofs.RunLemmas.{run_checked}
use Rattle.rga_lines.proofs.DeletionLemmas.{run_deletions_checked}
use Rattle.rga_lines.proofs.RunBack.{run_back}
use Rattle.rga_lines.proofs.DeletionBack.{deletions_back}
use Rattle.rga_lines.proofs.ReadBack.{line_back, end_back}
use Rattle.rga_lines.proofs.BeginningLemmas.{beginning_refused, run_beginning_refused}
use Rattle.serde_json.proofs.OnLiterals.{serde_json_on_literals}
use Rattle.rga_lines.specs.declared.fault.LineFault.TheVariants as fault

abbrev pub AreChecked : List Op → Type 0
AreChecked ops = AllByRecursion (λ op. checked op ≡ Ok tt) ops

abbrev pub stands_for : List Op → Result (List Op) LineFault
stands_for ops = Ok ops

abbrev pub stands_for_none : LineFault → Result (List Op) LineFault
stands_for_none e = Err e

pub stands : (bytes : List ℕ) (r : AnyReading) → any_line_at bytes ≡ r → operations_at bytes ≡ operations_in r
unfolding operations_at
stands bytes r e = ap operations_in e

-- the operations that a line stands for are well-formed
pub stand_checked : (bytes : List ℕ) (ops : List Op) → operations_at bytes ≡ Ok ops → AreChecked ops
stand_checked bytes ops h = grind (arith, any_line_at, stands, any_well_formed, stretch_operations, run_checked, any_run, run_deletions, run_deletions_checked, any_deletions)

pub long_stands : (bytes : List ℕ) → MAX_LINE < length bytes → operations_at bytes ≡ Err fault.Long
long_stands bytes h = stands bytes (Err fault.Long) (too_long bytes h)

-- no bytes stand for no operations
pub nothing_says : any_line_at [] ≡ Err fault.Json
unfolding serde_json_on_literals
nothing_says = refused [] (omega arith) (λ _. refl)

pub nothing_stands : operations_at [] ≡ Err fault.Json
nothing_stands = stands [] (Err fault.Json) nothing_says

pub line_stands : (op : Op) → IsWritable op → checked op ≡ Ok tt → operations_at (line op) ≡ Ok (op ∷ [])
line_stands op h e = stands (line op) (Ok (One op)) (line_back op h e)

pub run_stands : (r : Stretch) → IsWritableRun r → operations_at (run_line r) ≡ Ok (stretch_operations r)
run_stands r h = stands (run_line r) (Ok (Run r)) (run_back r h)

pub deletions_stand : (r : DeletionRun) → IsDeletionRun r → operations_at (deletion_run_line r) ≡ Ok (run_deletions r)
deletions_stand r h = stands (deletion_run_line r) (Ok (Deletions r)) (deletions_back r h)

pub end_stands : (operations : ℕ) → operations < 2 ^ 64 → operations_at (end_line operations) ≡ Err fault.Kind
end_stands operations h = stands (end_line operations) (Ok (Last operations)) (end_back operations h)

pub beginning_stands : (op : Op) (front : List ℕ) (b : ℕ) (back : List ℕ) → IsWritable op → line op ≡ front ++ b ∷ back → (e : LineFault) × (operations_at front ≡ Err e)
beginning_stands op front b back h e =
    let refused = beginning_refused op front b back h e in
    (refused.0, stands front (Err refused.0) refused.1)

pub run_beginning_stands : (r : Stretch) (front : List ℕ) (b : ℕ) (back : List ℕ) → IsWritableRun r → run_line r ≡ front ++ b ∷ back → (e : LineFault) × (operations_at front ≡ Err e)
run_beginning_stands r front b back h e =
    let refused = run_beginning_refused r front b back h e in
    (refused.0, stands front (Err refused.0) refused.1)
