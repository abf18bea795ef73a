-- Saves and exchanges that failed, and which of them stands first.
use Rattle.std.specs.Prelude.{ℕ, Bool, true, false, not, ◌&&◌, nat_eq, nat_lt, List, [], ◌∷◌, ◌++◌, length, map, filter, Option, Some, None, if◌then◌else◌}
use Rattle.mg_workspace.specs.Names.{moved}
use Rattle.mg_workspace.specs.declared.failures.Failed.{Failed}
use Rattle.mg_workspace.specs.declared.failures.Failure.{Failure}
use Rattle.mg_workspace.specs.declared.failures.Task.{Task}
use Rattle.mg_workspace.specs.declared.failures.Task.TheVariants.{Save, Exchange}

-- the two tasks are one
abbrev pub is_task : Task → Task → Bool
is_task Save Save = true
is_task Exchange Exchange = true
is_task _ _ = false

-- it is of that task in the buffer at an index
abbrev pub is_of : ℕ → Task → Failed → Bool
is_of buffer task f = elim f.buffer [
  | None ↦ false
  | Some i ↦ nat_eq i buffer && is_task f.task task
]

-- those of other tasks, and of other buffers
abbrev pub others : ℕ → Task → List Failed → List Failed
others buffer task fs = filter (λ f. not (is_of buffer task f)) fs

abbrev pub failed : ℕ → Task → Failure → Failed
failed buffer task why = record { buffer = Some buffer; task = task; why = why }

-- and one behind them. There is room for 129, the two of each of 64 buffers and one of a buffer that was removed: so where there
-- is none, one of a buffer that was removed stands before it for good.
abbrev pub and_last : Failed → List Failed → List Failed
and_last f fs = if nat_lt (length fs) 129 then fs ++ f ∷ [] else fs

-- what stands, the first one first, behind a task that was done, or failed for that
abbrev pub noted : ℕ → Task → Option Failure → List Failed → List Failed
noted buffer task None fs = others buffer task fs
noted buffer task (Some why) fs = and_last (failed buffer task why) (others buffer task fs)

-- the index of a buffer once the one at an index is removed; none where it was that one
abbrev pub owner : ℕ → ℕ → Option ℕ
owner gone i = if nat_eq i gone then None else Some (moved gone i)

-- a failure then: that of a removed buffer stays
abbrev pub moved_failed : ℕ → Failed → Failed
moved_failed gone f = record f {
  buffer = elim f.buffer [
    | None ↦ None
    | Some i ↦ owner gone i
  ];
}

abbrev pub without_owner : ℕ → List Failed → List Failed
without_owner gone fs = map (moved_failed gone) fs

-- why the first that stands failed
abbrev pub first_standing : List Failed → Option Failure
first_standing [] = None
first_standing (f ∷ fs) = Some f.why
