-- Writers whose notes are open in live sessions. What a report says to one of them was told by one of them, or is in a log.
use Rattle.std.specs.Prelude.{◌≡◌, ◌≤◌, ◌⊎◌, ℕ, Bool, true, List, [], ◌∷◌, ◌++◌, Option, Some, None, Ok, map, slice_get, slice_set}
use Rattle.std.specs.List.{Contains}
use Rattle.rga_ops.specs.Content.{Content, Holds, content_of}
use Rattle.rga_ops.specs.declared.op.Op.{Op}
use Rattle.rga_store.specs.Limit.{is_limit}
use Rattle.rga_lines.specs.Log.{log_operations}
use Rattle.rga_exchange.specs.Sending.{StandsFor}
use Rattle.rga_world.specs.Together.{join_of}
use Rattle.mg_buffer.specs.OpenState.{OpenState}
use Rattle.mg_files.specs.Calls.{Call}
use Rattle.mg_files.specs.Held.{Held, MayLead, log_bytes}
use Rattle.mg_files.specs.Writers.{Writer, own_limit, own_replica}
use Rattle.mg_events.specs.Reading.{Told, key, report, refused}
use Rattle.mg_editor.specs.Editors.{Editor}
use Rattle.mg_editor.specs.Meeting.{role_of}
use Rattle.mg_session.specs.Keys.{request_of}
use Rattle.mg_session.specs.Opening.{LoadsTo}
use Rattle.mg_screen.specs.Settings.{Values}
use Rattle.mg_live.specs.Blocks.{EndsBlock, told_operations}
use Rattle.mg_live.specs.Running.{TakesEvent, live_at_start}
use Rattle.mg_live.specs.Standing.{AreKept, AreKeptWithin, operations_at}
use Rattle.mg_live.specs.States.{Moment}

-- A note's name, a replica number, and how many identifiers may be known; what is held where the note is; and the session
-- in which it is open, or none.
pub record LiveWriter : Type 0 where
  pub name : List ℕ
  pub replica : ℕ
  pub limit : ℕ
  pub held : Held
  pub session : Option Moment

-- with what is held then, and the session
abbrev pub at_moment : Held → Option Moment → LiveWriter → LiveWriter
at_moment s session x = record x { held = s; session = session }

-- its live buffer, where that is open
pub record IsLiveBuffer (x : LiveWriter) (b : OpenState) : Type 0 where
  pub moment : Moment
  pub runs : x.session ≡ Some moment
  pub there : Contains moment.editor.work.buffers.all b
  pub named : b.buffer.name ≡ x.name

-- ---- what is shared

-- the log of one of them stands for a content that holds the operation
pub record IsLoggedByOne (xs : List LiveWriter) (op : Op) : Type 0 where
  pub giver : LiveWriter
  pub among : Contains xs giver
  pub saved : Content
  pub stands : StandsFor (log_bytes (giver.held giver.name).log) saved
  pub holds : Holds saved op

-- It was told, or it is in a log: of a session that was killed before it told, or of one that ended long ago.
abbrev pub IsShared : List LiveWriter → List Op → Op → Type 0
IsShared xs told op = Contains told op ⊎ IsLoggedByOne xs op

-- what an event says of others is shared; and no key asks to meet a peer
abbrev pub SaysShared : List LiveWriter → List Op → (event : Told) (before after : Moment) → TakesEvent event before after → Type 0
SaysShared xs told (key byte) before after taken = role_of (request_of taken.1.answer) ≡ None
SaysShared xs told (report line) before after taken = (op : Op) → Contains (operations_at line) op → IsShared xs told op
SaysShared xs told (refused fault) before after taken = Unit {0}

-- ---- what sessions do

-- the calls of the port between two moments lead from what was held to what is held
pub record Leads (before after : Moment) (s t : Held) : Type 0 where
  pub told : List Call
  pub made : List Call
  pub calls : before.calls ≡ Some told
  pub adds : after.calls ≡ Some (told ++ made)
  pub leads : MayLead made s t

-- A session stands so at its start, by what its load answered of what is held; its settings are the writer's.
pub record StartsSession (x : LiveWriter) (m : Moment) (t : Held) : Type 0 where
  pub values : Values
  pub name : values.name ≡ x.name
  pub replica : values.replica ≡ x.replica
  pub limit : values.limit ≡ x.limit
  pub first : Editor
  pub told : List Call
  pub made : List Call
  pub loads : LoadsTo values (Some told) (Some (told ++ made)) (Ok first)
  pub leads : MayLead made x.held t
  pub kept : AreKept first.work.buffers
  pub noted : Bool
  pub editor : m.editor ≡ first
  pub calls : m.calls ≡ Some (told ++ made)
  pub live : m.live ≡ live_at_start noted values first

-- an event was taken
pub record TakesShared (xs : List LiveWriter) (told : List Op) (event : Told) (s : Held) (before after : Moment) (t : Held) : Type 0 where
  pub taken : TakesEvent event before after
  pub leads : Leads before after s t
  pub within : AreKeptWithin event before after taken
  pub kept : AreKept after.editor.work.buffers
  pub shared : SaysShared xs told event before after taken

-- a block ended, and these operations were told, or some of them
pub record EndsTelling (s : Held) (before after : Moment) (t : Held) (ops : List Op) : Type 0 where
  pub block : EndsBlock before after
  pub leads : Leads before after s t
  pub kept : AreKept after.editor.work.buffers
  pub told : ops ≡ told_operations block.written.live block.written.editor

-- Anything else, as that the keys ended: the editor, the calls, the live buffer's name, and what is to be told stay.
pub record StaysSame (before after : Moment) : Type 0 where
  pub editor : after.editor ≡ before.editor
  pub calls : after.calls ≡ before.calls
  pub name : after.live.name ≡ before.live.name
  pub untold : after.live.telling.untold ≡ before.live.telling.untold

-- What the writer of that number does: it starts a session, which takes events and ends blocks, and ends, or is killed. In
-- one that is killed at a call of the port, this call is one that failed, and so is each later one of the event or the end of
-- the block: whatever it left is held.
pub data LiveAct : Type 0 where
  Starts : ℕ → LiveAct
  Takes : ℕ → Told → LiveAct
  Ends : ℕ → LiveAct
  Stays : ℕ → LiveAct
  Dies : ℕ → LiveAct

-- the writer of the number, x, becomes y, and the others stay as they are
pub record Becomes (number : ℕ) (xs : List LiveWriter) (x y : LiveWriter) (ys : List LiveWriter) : Type 0 where
  pub was : slice_get xs number ≡ Some x
  pub now : ys ≡ slice_set xs number y

-- what was told before, and is after it
abbrev pub MayLive : List LiveWriter → List Op → LiveAct → List LiveWriter → List Op → Type 0
MayLive xs told (Starts number) ys more =
    (x : LiveWriter) × (m : Moment) × (t : Held) × Becomes number xs x (at_moment t (Some m) x) ys × (x.session ≡ None) × StartsSession x m t × (more ≡ told)
MayLive xs told (Takes number event) ys more =
    (x : LiveWriter) × (before : Moment) × (after : Moment) × (t : Held) × Becomes number xs x (at_moment t (Some after) x) ys × (x.session ≡ Some before)
    × TakesShared xs told event x.held before after t × (more ≡ told)
MayLive xs told (Ends number) ys more =
    (x : LiveWriter) × (before : Moment) × (after : Moment) × (t : Held) × Becomes number xs x (at_moment t (Some after) x) ys × (x.session ≡ Some before)
    × (ops : List Op) × EndsTelling x.held before after t ops × (more ≡ told ++ ops)
MayLive xs told (Stays number) ys more =
    (x : LiveWriter) × (before : Moment) × (after : Moment) × Becomes number xs x (at_moment x.held (Some after) x) ys × (x.session ≡ Some before)
    × StaysSame before after × (more ≡ told)
MayLive xs told (Dies number) ys more = (x : LiveWriter) × Becomes number xs x (at_moment x.held None x) ys × (more ≡ told)

-- and so in a row
abbrev pub MayLiveOn : List LiveWriter → List Op → List LiveAct → List LiveWriter → List Op → Type 0
MayLiveOn xs told [] ys more = (ys ≡ xs) × (more ≡ told)
MayLiveOn xs told (act ∷ acts) ys more = (mid : List LiveWriter) × (ops : List Op) × MayLive xs told act mid ops × MayLiveOn mid ops acts ys more

-- ---- writers that are reached

-- no session is open, and there is no log: a text may be there
pub record IsNew (most : ℕ) (x : LiveWriter) : Type 0 where
  pub session : x.session ≡ None
  pub log : (x.held x.name).log ≡ None
  pub limit : x.limit ≡ most

-- each has a replica number of its own
pub record HaveOwnReplicas (xs : List LiveWriter) : Type 0 where
  pub ranged : (x : LiveWriter) → Contains xs x → (1 ≤ x.replica) × (x.replica ≤ 65535)
  pub apart : (i j : ℕ) (x y : LiveWriter) → slice_get xs i ≡ Some x → slice_get xs j ≡ Some y → x.replica ≡ y.replica → i ≡ j

-- new writers with numbers of their own did something, and these are they now, who told that
pub record AreLive (xs : List LiveWriter) (told : List Op) : Type 0 where
  pub first : List LiveWriter
  pub most : ℕ
  pub limited : is_limit most ≡ true
  pub new : (x : LiveWriter) → Contains first x → IsNew most x
  pub own : HaveOwnReplicas first
  pub acts : List LiveAct
  pub lead : MayLiveOn first [] acts xs told

-- ---- the writers of mg_files that they are

-- of the same name, numbers and files; its buffer is the live buffer, where that is open
pub record IsWriter (x : LiveWriter) (w : Writer) : Type 0 where
  pub name : w.buffer.buffer.name ≡ x.name
  pub replica : own_replica w ≡ x.replica
  pub limit : own_limit w ≡ x.limit
  pub files : w.files ≡ x.held
  pub buffer : (b : OpenState) → IsLiveBuffer x b → b ≡ w.buffer

-- each is the one at its place
abbrev pub AreWriters : List LiveWriter → List Writer → Type 0
AreWriters xs ws = (i : ℕ) (x : LiveWriter) → slice_get xs i ≡ Some x → (w : Writer) × (slice_get ws i ≡ Some w) × IsWriter x w

-- what the log of one says, and the join of what all logs say
abbrev pub live_logged : LiveWriter → Content
live_logged x = content_of (log_operations (log_bytes (x.held x.name).log))

abbrev pub all_live_logged : List LiveWriter → Content
all_live_logged xs = join_of (map live_logged xs)
