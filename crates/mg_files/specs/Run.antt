-- A buffer and what is held, through saves and changes.
use Rattle.std.specs.Prelude.{◌≡◌, ◌⊎◌, ℕ, Bool, true, List, [], ◌∷◌, ◌++◌, Contains, Some, Result, Ok}
use Rattle.rga_ops.specs.Content.{Content, IsWithin}
use Rattle.rga_ops.specs.ListAnswer.{list_answer}
use Rattle.rga_ops.specs.declared.op.Op.{Op}
use Rattle.rga_ops.specs.declared.op.Op.TheVariants.{Insert, Delete}
use Rattle.mg_buffer.specs.Faults.{undo_answer}
use Rattle.mg_buffer.specs.Following.{TakesOperations}
use Rattle.mg_buffer.specs.Groups.{are_revertible}
use Rattle.mg_buffer.specs.Ran.{Ran}
use Rattle.mg_buffer.specs.Sight.{CommandCall, Notes}
use Rattle.mg_buffer.specs.State.{State}
use Rattle.mg_buffer.specs.Undid.{Undid}
use Rattle.mg_files.specs.Calls.{Call}
use Rattle.mg_buffer.specs.OpenState.{OpenState}
use Rattle.mg_files.specs.Saving.{SavesTo}
use Rattle.mg_files.specs.declared.port.PortFault.{PortFault}
use Rattle.mg_files.specs.Held.{Held, MayLead}
use Rattle.mg_files.specs.Kept.{IsWritableWhole, IsLogged}

-- A save, by what it answered; a command with its argument and the fill column, and an undo, each with what it found of
-- the notes and left of them; operations of others that were taken; or anything else that leaves the operations, as the
-- save of another buffer.
pub data BufferStep : Type 0 where
  Saves : Result Bool PortFault → BufferStep
  Runs : CommandCall → Notes → Notes → BufferStep
  Undoes : Notes → Notes → BufferStep
  Takes : List Op → BufferStep
  Rests : BufferStep

-- the buffer alone changed, and its files stayed, whatever became of others
pub record ChangesAlone (b d : OpenState) (s t : Held) : Type 0 where
  pub rest : d ≡ record b { buffer = d.buffer }
  pub writable : IsWritableWhole d.buffer.content
  pub held : t b.buffer.name ≡ s b.buffer.name

-- the same name, operations, limit and replica
pub record KeepsOperations (b d : State) : Type 0 where
  pub name : d.name ≡ b.name
  pub content : d.content ≡ b.content
  pub unsaved : d.unsaved ≡ b.unsaved
  pub limit : d.limit ≡ b.limit
  pub replica : d.replica ≡ b.replica

-- An undo that was not refused. Each group can be reverted, as the type of buffers keeps.
pub record UndoesOne (b : State) (old : Notes) (d : State) (new : Notes) : Type 0 where
  pub revertible : are_revertible b.content b.groups ≡ true
  pub allowed : undo_answer b ≡ Ok tt
  pub undid : Undid b old d new

-- operations none of which was refused
pub record TakesAll (b : State) (ops : List Op) (d : State) : Type 0 where
  pub allowed : list_answer b.limit b.content ops ≡ Ok tt
  pub follows : TakesOperations b ops d

-- a save told these calls, which lead to what is held behind it
pub record SavesOnce (answer : Result Bool PortFault) (b d : OpenState) (s t : Held) : Type 0 where
  pub before : List Call
  pub made : List Call
  pub saves : SavesTo answer (Some before) (Some (before ++ made)) b d
  pub leads : MayLead made s t

abbrev pub MayStep : BufferStep → OpenState → Held → OpenState → Held → Type 0
MayStep (Saves answer) b s d t = SavesOnce answer b d s t
MayStep (Runs call old new) b s d t = ChangesAlone b d s t × Ran call b.buffer old d.buffer new
MayStep (Undoes old new) b s d t = ChangesAlone b d s t × UndoesOne b.buffer old d.buffer new
MayStep (Takes ops) b s d t = ChangesAlone b d s t × TakesAll b.buffer ops d.buffer
MayStep Rests b s d t = ChangesAlone b d s t × KeepsOperations b.buffer d.buffer

abbrev pub MayGo : List BufferStep → OpenState → Held → OpenState → Held → Type 0
MayGo [] b s d t = (d ≡ b) × (t b.buffer.name ≡ s b.buffer.name)
MayGo (step ∷ steps) b s d t = (c : OpenState) × (u : Held) × MayStep step b s c u × MayGo steps c u d t

-- ---- the operations of steps

-- each operation that one of the steps takes is one of these
abbrev pub TakesOnly : List Op → List BufferStep → Type 0
TakesOnly ops [] = Unit {0}
TakesOnly ops (Saves answer ∷ steps) = TakesOnly ops steps
TakesOnly ops (Runs call old new ∷ steps) = TakesOnly ops steps
TakesOnly ops (Undoes old new ∷ steps) = TakesOnly ops steps
TakesOnly ops (Takes taken ∷ steps) = ((op : Op) → Contains taken op → Contains ops op) × TakesOnly ops steps
TakesOnly ops (Rests ∷ steps) = TakesOnly ops steps

-- What a step joins to the content: what a command or an undo made is unsaved then; a save and a rest join nothing.
abbrev pub StepOperations : BufferStep → OpenState → OpenState → List Op → Type 0
StepOperations (Saves answer) b d ops = ops ≡ []
StepOperations (Runs call old new) b d ops = d.buffer.unsaved ≡ b.buffer.unsaved ++ ops
StepOperations (Undoes old new) b d ops = d.buffer.unsaved ≡ b.buffer.unsaved ++ ops
StepOperations (Takes taken) b d ops = ops ≡ taken
StepOperations Rests b d ops = ops ≡ []

-- what was inserted is of the replica's own making or was taken; a deletion may be either
abbrev pub IsMadeOrTaken : ℕ → List Op → Op → Type 0
IsMadeOrTaken replica taken (Insert id parent ch) = (id.replica ≡ replica) ⊎ Contains taken (Insert id parent ch)
IsMadeOrTaken replica taken (Delete id) = Unit {0}

-- ---- what is held after them

-- the log stands for all of what was held before, and more, if anything
pub record HoldsMore (held : Content) (d : OpenState) (t : Held) : Type 0 where
  pub now : Content
  pub logged : IsLogged now d (t d.buffer.name).log
  pub grown : IsWithin held now
