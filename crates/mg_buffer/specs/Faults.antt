-- What is answered to a command and to an undo, want of memory aside.
use Rattle.std.specs.Prelude.{ℕ, true, length, Some, None, Result, Ok, Err}
use Rattle.rga_ops.specs.Splice.{new_characters}
use Rattle.rga_ops.specs.ListAnswer.{Verdict}
use Rattle.rga_ops.specs.Prelude.{Memory}
use Rattle.rga_doc.specs.LocalEdit.{edit_answer}
use Rattle.mg_plain.specs.declared.outcome.Notice.{Notice}
use Rattle.mg_plain.specs.declared.outcome.Notice.TheVariants.{NothingToUndo, Memory as NoMemory}
use Rattle.mg_buffer.specs.declared.fault.BufferFault.{BufferFault}
use Rattle.mg_buffer.specs.declared.fault.BufferFault.TheVariants.{Notice as Noticed, Store}
use Rattle.mg_buffer.specs.Groups.{group_to_undo}
use Rattle.mg_buffer.specs.State.{State}
use Rattle.mg_buffer.specs.Sight.{CommandCall, Notes, effect_of_call}

-- the fault of a notice: want of memory is the store's
abbrev pub fault_of : Notice → BufferFault
fault_of (NoMemory _) = Store Memory
fault_of notice = Noticed notice

abbrev pub FaultVerdict : Type 0
FaultVerdict = Result (Unit {0}) BufferFault

abbrev pub stored : Verdict → FaultVerdict
stored (Ok u) = Ok tt
stored (Err e) = Err (Store e)

-- `Full` or `Clock` where so many new characters are too many: places are never out of range
abbrev pub growth_answer : State → ℕ → Verdict
growth_answer b new = edit_answer b.limit b.content true new

-- a notice where the command has one, else what its splices' new characters have
abbrev pub run_answer : CommandCall → State → Notes → FaultVerdict
run_answer call b notes = elim (effect_of_call call b notes) [
  | Ok e ↦ stored (growth_answer b (new_characters e.splices))
  | Err notice ↦ Err (fault_of notice)
]

-- `NothingToUndo` where there is no group to take, else what the restored characters have
abbrev pub undo_answer : State → FaultVerdict
undo_answer b = elim (group_to_undo b.groups b.undone) [
  | None ↦ Err (Noticed NothingToUndo)
  | Some p ↦ stored (growth_answer b (length p.1.deleted))
]
