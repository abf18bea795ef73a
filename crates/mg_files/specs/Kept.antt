-- A buffer beside what is held under its name.
use Rattle.std.specs.Prelude.{◌≡◌, ◌≤◌, ℕ, true, false, List, [], Option, Some, None, Ok}
use Rattle.rga_ops.specs.Content.{Content, nothing, join, content_of, known_count, Holds, IsSound, IsWithin}
use Rattle.rga_ops.specs.ListAnswer.{IsJoinable}
use Rattle.rga_ops.specs.declared.op.Op.{Op}
use Rattle.rga_lines.specs.Spelling.{IsWritable}
use Rattle.rga_lines.specs.Stream.{rest_of}
use Rattle.rga_exchange.specs.declared.log.LogEnd.{LogEnd}
use Rattle.rga_exchange.specs.Sending.{StandsFor}
use Rattle.mg_files.specs.Files.{Files}
use Rattle.mg_files.specs.Loading.{loaded, opened, load_outcome}
use Rattle.mg_buffer.specs.OpenState.{OpenState}
use Rattle.mg_files.specs.Held.{log_bytes}

-- each operation of the content can be written: its numbers and its character are within their ranges, as their types keep
abbrev pub IsWritableWhole : Content → Type 0
IsWritableWhole c = (op : Op) → Holds c op → IsWritable op

abbrev pub IsThere : Option (List ℕ) → Type 0
IsThere log = (bytes : List ℕ) × (log ≡ Some bytes)

-- The log stands for a content, to which the unsaved operations lack: with them it is the buffer's. Where the next writing
-- is to be an append, the log ends in a newline.
pub record IsLogged (held : Content) (b : OpenState) (log : Option (List ℕ)) : Type 0 where
  pub stands : StandsFor (log_bytes log) held
  pub absent : log ≡ None → held ≡ nothing
  pub ended : b.whole ≡ false → rest_of (log_bytes log) ≡ []
  pub content : b.buffer.content ≡ join held (content_of b.buffer.unsaved)
  pub joinable : IsJoinable held b.buffer.unsaved
  pub sound : IsSound b.buffer.content
  pub writable : IsWritableWhole b.buffer.content
  pub fits : known_count b.buffer.content ≤ b.buffer.limit
  -- a text waits only where a log was written
  pub waits : b.text_waits ≡ true → IsThere log

-- what the types keep of each buffer: its operations are well-formed and can be written, and are no more than it may know
pub record IsBuffer (b : OpenState) : Type 0 where
  pub sound : IsSound b.buffer.content
  pub writable : IsWritableWhole b.buffer.content
  pub fits : known_count b.buffer.content ≤ b.buffer.limit

-- the log stands for a content beside which the buffer is kept
pub record IsLoggedBy (b : OpenState) (log : Option (List ℕ)) : Type 0 where
  pub held : Content
  pub logged : IsLogged held b log

-- these files open the buffer of that name with this content, nothing of it unsaved
pub record OpensSaved (name : List ℕ) (replica limit : ℕ) (found : Files) (c : Content) : Type 0 where
  pub end : LogEnd
  pub outcome : load_outcome name replica limit found ≡ Ok (opened name replica limit (loaded c [] end), end)

-- A save of b that ended with a fault left d, and this log: it stands for all of what was held before, and for nothing
-- that the buffer has not.
pub record Grows (held : Content) (b d : OpenState) (log : Option (List ℕ)) : Type 0 where
  pub now : Content
  pub logged : IsLogged now d log
  pub grown : IsWithin held now
  pub within : IsWithin now b.buffer.content
