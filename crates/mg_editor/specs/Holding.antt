-- What a port holds of the open buffers, through presses and requests.
use Rattle.std.specs.Prelude.{◌≡◌, ◌<◌, ◌≤◌, ℕ, true, List, length, Ok}
use Rattle.std.specs.List.{Contains}
use Rattle.rga_ops.specs.Content.{known_count}
use Rattle.rga_ops.specs.declared.op.Op.{Op}
use Rattle.rga_exchange.specs.declared.log.LogEnd.{LogEnd}
use Rattle.mg_buffer.specs.Groups.{are_revertible}
use Rattle.mg_buffer.specs.OpenState.{OpenState, with_brief, with_runs}
use Rattle.mg_files.specs.Files.{Files}
use Rattle.mg_files.specs.Loading.{load_outcome}
use Rattle.mg_files.specs.Held.{Held, AnswersLoad}
use Rattle.mg_files.specs.Kept.{IsWritableWhole, IsLoggedBy}
use Rattle.mg_files.specs.Run.{BufferStep, MayGo, TakesOnly}
use Rattle.mg_workspace.specs.Buffers.{Buffers, buffer_at}
use Rattle.mg_workspace.specs.Workspaces.{Workspace}

-- what the types keep of open buffers: one is current; of each the operations can be written, the undo groups can be
-- reverted, and there are no more identifiers than it may know
pub record AreOpen (bs : Buffers) : Type 0 where
  pub current : bs.current < length bs.all
  pub writable : (b : OpenState) → Contains bs.all b → IsWritableWhole b.buffer.content
  pub revertible : (b : OpenState) → Contains bs.all b → are_revertible b.buffer.content b.buffer.groups ≡ true
  pub fits : (b : OpenState) → Contains bs.all b → known_count b.buffer.content ≤ b.buffer.limit

-- no two have one name
abbrev pub HaveOwnNames : Buffers → Type 0
HaveOwnNames bs =
    (i j : ℕ) → i < length bs.all → j < length bs.all → (buffer_at i bs).buffer.name ≡ (buffer_at j bs).buffer.name → i ≡ j

-- a buffer of that name is open
abbrev pub IsOpen : List ℕ → Buffers → Type 0
IsOpen name bs = (d : OpenState) × Contains bs.all d × (d.buffer.name ≡ name)

-- The buffer d was open before, and steps lead from it and from what was held to d and what is held. What they take of
-- others is among those operations.
pub record GoesOn (ops : List Op) (before : Buffers) (s : Held) (d : OpenState) (t : Held) : Type 0 where
  pub b : OpenState
  pub was : Contains before.all b
  pub steps : List BufferStep
  pub takes : TakesOnly ops steps
  pub goes : MayGo steps b s d t

-- It was opened by what a load of that name answered of what was held, which is held still.
pub record IsOpenedBy (name : List ℕ) (before : Workspace) (s : Held) (d : OpenState) (t : Held) : Type 0 where
  pub found : Files
  pub answers : AnswersLoad (s name) found
  pub loaded : OpenState
  pub end : LogEnd
  pub outcome : load_outcome name before.replica before.limit found ≡ Ok (loaded, end)
  pub is : d ≡ with_brief before.brief (with_runs before.runs loaded)
  pub held : t name ≡ s name

-- each is kept beside the log that is held under its name
abbrev pub AreLogged : Buffers → Held → Type 0
AreLogged bs s = (b : OpenState) → Contains bs.all b → IsLoggedBy b (s b.buffer.name).log
