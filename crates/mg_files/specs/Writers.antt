-- Writers, each with a buffer and files of its own. What one of them takes is in a log, of another or its own.
use Rattle.std.specs.Prelude.{◌≡◌, ◌≤◌, ℕ, Bool, true, false, List, [], ◌∷◌, map, Contains, Some, None, Ok, slice_get, slice_set}
use Rattle.rga_ops.specs.Content.{Content, nothing, content_of, Holds}
use Rattle.rga_ops.specs.declared.op.Op.{Op}
use Rattle.rga_store.specs.Limit.{is_limit}
use Rattle.rga_lines.specs.Log.{log_operations}
use Rattle.rga_exchange.specs.Sending.{StandsFor}
use Rattle.rga_exchange.specs.declared.log.LogEnd.{LogEnd}
use Rattle.rga_world.specs.Sites.{World, site}
use Rattle.rga_world.specs.Steps.{replica_of}
use Rattle.rga_world.specs.Together.{join_of}
use Rattle.mg_buffer.specs.OpenState.{OpenState, with_brief, with_runs}
use Rattle.mg_files.specs.Files.{Files}
use Rattle.mg_files.specs.Loading.{load_outcome}
use Rattle.mg_files.specs.Held.{Held, AnswersLoad, log_bytes}
use Rattle.mg_files.specs.Kept.{IsBuffer, IsLogged}
use Rattle.mg_files.specs.Run.{BufferStep, Saves, Runs, Undoes, Takes, Rests, MayStep}

-- a buffer that is open, and what is held under each name
pub record Writer : Type 0 where
  pub buffer : OpenState
  pub files : Held

-- the files of its buffer, its replica, how many identifiers it may know, and what it holds
abbrev pub own_files : Writer → Files
own_files x = x.files x.buffer.buffer.name

abbrev pub own_replica : Writer → ℕ
own_replica x = x.buffer.buffer.replica

abbrev pub own_limit : Writer → ℕ
own_limit x = x.buffer.buffer.limit

abbrev pub own_content : Writer → Content
own_content x = x.buffer.buffer.content

-- ---- what writers do

-- The writer of this number makes a step, or its buffer is opened anew by what is held, as after a kill. A save that was cut
-- off is a step, too: one that answered a fault.
pub data Act : Type 0 where
  Steps : ℕ → BufferStep → Act
  Opens : ℕ → Act

-- the log of a writer stands for a content that holds the operation
pub record IsInALog (ws : List Writer) (op : Op) : Type 0 where
  pub giver : Writer
  pub among : Contains ws giver
  pub saved : Content
  pub stands : StandsFor (log_bytes (own_files giver).log) saved
  pub holds : Holds saved op

-- what the step takes is in a log
abbrev pub TakesLogged : List Writer → BufferStep → Type 0
TakesLogged ws (Saves answer) = Unit {0}
TakesLogged ws (Runs call old new) = Unit {0}
TakesLogged ws (Undoes old new) = Unit {0}
TakesLogged ws (Takes ops) = (op : Op) → Contains ops op → IsInALog ws op
TakesLogged ws Rests = Unit {0}

-- y has the buffer that a load of x's files answers; saves of it may append runs, and its exchanges may be brief
pub record IsOpenedAnew (x y : Writer) : Type 0 where
  pub found : Files
  pub answers : AnswersLoad (own_files x) found
  pub loaded : OpenState
  pub end : LogEnd
  pub outcome : load_outcome x.buffer.buffer.name (own_replica x) (own_limit x) found ≡ Ok (loaded, end)
  pub kept : IsBuffer loaded
  pub runs : Bool
  pub brief : Bool
  pub is : y.buffer ≡ with_brief brief (with_runs runs loaded)
  pub held : own_files y ≡ own_files x

-- the writer of the number, x, becomes y, and the others stay as they are
pub record Becomes (number : ℕ) (ws : List Writer) (x y : Writer) (vs : List Writer) : Type 0 where
  pub was : slice_get ws number ≡ Some x
  pub now : vs ≡ slice_set ws number y

abbrev pub MayAct : List Writer → Act → List Writer → Type 0
MayAct ws (Steps number step) vs = (x : Writer) × (y : Writer) × Becomes number ws x y vs × MayStep step x.buffer x.files y.buffer y.files × TakesLogged ws step
MayAct ws (Opens number) vs = (x : Writer) × (y : Writer) × Becomes number ws x y vs × IsOpenedAnew x y

-- and so in a row
abbrev pub MayActOn : List Writer → List Act → List Writer → Type 0
MayActOn ws [] vs = vs ≡ ws
MayActOn ws (act ∷ acts) vs = (us : List Writer) × MayAct ws act us × MayActOn us acts vs

-- ---- writers that are reached

-- the writer holds nothing and has no log: a text may be there
pub record IsFresh (most : ℕ) (x : Writer) : Type 0 where
  pub content : own_content x ≡ nothing
  pub unsaved : x.buffer.buffer.unsaved ≡ []
  pub waits : x.buffer.text_waits ≡ false
  pub log : (own_files x).log ≡ None
  pub limit : own_limit x ≡ most

abbrev pub AreFresh : List Writer → ℕ → Type 0
AreFresh ws most = (x : Writer) → Contains ws x → IsFresh most x

-- each has a replica number of its own
pub record HaveOwnNumbers (ws : List Writer) : Type 0 where
  pub ranged : (x : Writer) → Contains ws x → (1 ≤ own_replica x) × (own_replica x ≤ 65535)
  pub apart : (i j : ℕ) (x y : Writer) → slice_get ws i ≡ Some x → slice_get ws j ≡ Some y → own_replica x ≡ own_replica y → i ≡ j

-- fresh writers with numbers of their own did something, and these are they now
pub record AreReached (ws : List Writer) : Type 0 where
  pub first : List Writer
  pub most : ℕ
  pub limited : is_limit most ≡ true
  pub fresh : AreFresh first most
  pub own : HaveOwnNumbers first
  pub acts : List Act
  pub lead : MayActOn first acts ws

-- ---- their sites

-- the site of the writer's number holds what its buffer holds, and has saved what its log stands for
pub record IsSiteOf (w : World) (x : Writer) : Type 0 where
  pub saved : Content
  pub logged : IsLogged saved x.buffer (own_files x).log
  pub number : ℕ
  pub numbered : own_replica x ≡ replica_of number
  pub there : slice_get w.sites number ≡ Some (site (own_content x) saved)
  pub limit : own_limit x ≡ w.limit

abbrev pub AreSites : List Writer → World → Type 0
AreSites ws w = (x : Writer) → Contains ws x → IsSiteOf w x

-- ---- all of them together

-- what the log of a writer says
abbrev pub logged_content : Writer → Content
logged_content x = content_of (log_operations (log_bytes (own_files x).log))

-- the join of what all logs say
abbrev pub all_logged : List Writer → Content
all_logged ws = join_of (map logged_content ws)

-- the join of what all of them hold
abbrev pub all_written : List Writer → Content
all_written ws = join_of (map own_content ws)
