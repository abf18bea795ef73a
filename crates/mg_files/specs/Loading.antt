-- What is loaded from the files under a name, and why nothing is.
use Rattle.std.specs.Prelude.{◌≡◌, ℕ, ◌==◌, nat_lt, Bool, true, false, List, [], length, Option, Some, None, Result, Ok, Err, IfSome, chars, if◌then◌else◌}
use Rattle.std.specs.Result.{result_and}
use Rattle.std.specs.Str.{is_utf8}
use Rattle.rga_ops.specs.Content.{Content, nothing, content_of}
use Rattle.rga_ops.specs.declared.op.Op.{Op}
use Rattle.rga_ops.specs.declared.refusal.Refusal.TheVariants.{BadId, Full, Range}
use Rattle.rga_store.specs.Limit.{is_limit}
use Rattle.rga_doc.specs.Document.{document}
use Rattle.rga_doc.specs.LocalEdit.{splice_operations}
use Rattle.rga_lines.specs.Log.{log_operations}
use Rattle.rga_exchange.specs.declared.fault.ReceiveFault.{ReceiveFault}
use Rattle.rga_exchange.specs.declared.log.LogEnd.{LogEnd}
use Rattle.rga_exchange.specs.declared.log.LogEnd.TheVariants.{Whole, Bare, Torn}
use Rattle.rga_exchange.specs.Log.{log_outcome, log_end}
use Rattle.mg_buffer.specs.OpenState.{OpenState}
use Rattle.mg_buffer.specs.State.{new_state}
use Rattle.mg_files.specs.declared.fault.LoadFault.{LoadFault}
use Rattle.mg_files.specs.declared.fault.LoadFault.TheVariants.{Log, NotText, Store}
use Rattle.mg_files.specs.Files.{Files}

-- what files say: a content, those of its operations that no log has, and how the log ends
pub record Loaded : Type 0 where
  pub content : Content
  pub unsaved : List Op
  pub end : LogEnd

abbrev pub loaded : Content → List Op → LogEnd → Loaded
loaded c unsaved end = record { content = c; unsaved = unsaved; end = end }

-- ---- a log

-- the content of its operations, nothing of it unsaved
abbrev pub of_log : List ℕ → Result LogEnd ReceiveFault → Result Loaded LoadFault
of_log bytes (Ok end) = Ok (loaded (content_of (log_operations bytes)) [] end)
of_log bytes (Err e) = Err (Log e)

abbrev pub log_loaded : ℕ → List ℕ → Result Loaded LoadFault
log_loaded limit bytes = of_log bytes (log_end (log_outcome limit nothing bytes).1)

-- ---- a text

-- the operations by which a replica that holds nothing inserts these characters
abbrev pub text_insertions : ℕ → List ℕ → List Op
text_insertions replica put = splice_operations replica nothing 0 0 put

-- the content of these, all unsaved
abbrev pub characters_loaded : ℕ → ℕ → List ℕ → Result Loaded LoadFault
characters_loaded replica limit put =
    if nat_lt limit (length put) then Err (Store Full)
    else Ok (loaded (content_of (text_insertions replica put)) (text_insertions replica put) Whole)

abbrev pub text_loaded : ℕ → ℕ → List ℕ → Result Loaded LoadFault
text_loaded replica limit bytes = if is_utf8 bytes then characters_loaded replica limit (chars bytes) else Err NotText

-- ---- both files

-- where a log is there, the text is not looked at
abbrev pub either_loaded : ℕ → ℕ → Option (List ℕ) → Option (List ℕ) → Result Loaded LoadFault
either_loaded replica limit (Some log) text = log_loaded limit log
either_loaded replica limit None (Some text) = text_loaded replica limit text
either_loaded replica limit None None = Ok (loaded nothing [] Whole)

abbrev pub files_loaded : ℕ → ℕ → Files → Result Loaded LoadFault
files_loaded replica limit found = either_loaded replica limit found.log found.text

-- ---- a buffer

-- the end is no newline
abbrev pub ends_open : LogEnd → Bool
ends_open Whole = false
ends_open Bare = true
ends_open (Torn bytes) = true

-- Point is at the front, there is no mark and no group. The next writing of a log that ends open is a whole one.
abbrev pub opened : List ℕ → ℕ → ℕ → Loaded → OpenState
opened name replica limit l = record {
  buffer = new_state (document l.content limit replica false) name l.unsaved;
  whole = ends_open l.end;
  text_waits = false;
  runs = false;
  brief = false;
}

abbrev pub opened_and_end : List ℕ → ℕ → ℕ → Result Loaded LoadFault → Result (OpenState × LogEnd) LoadFault
opened_and_end name replica limit (Ok l) = Ok (opened name replica limit l, l.end)
opened_and_end name replica limit (Err e) = Err e

-- whether there are buffers of such a replica with such a limit
abbrev pub opening_answer : ℕ → ℕ → Result (Unit {0}) LoadFault
opening_answer replica limit =
    if replica == 0 then Err (Store BadId)
    else (if is_limit limit then Ok tt else Err (Store Range))

-- a buffer and how its log ends, or a fault
abbrev pub load_outcome : List ℕ → ℕ → ℕ → Files → Result (OpenState × LogEnd) LoadFault
load_outcome name replica limit found =
    result_and (opening_answer replica limit) (opened_and_end name replica limit (files_loaded replica limit found))

-- Where a load may answer Memory, nothing is refused that is found without memory: the replica and the limit are allowed, and
-- where no log is there the text is UTF-8.
abbrev pub MayWantMemory : ℕ → ℕ → Files → Type 0
MayWantMemory replica limit found =
    (opening_answer replica limit ≡ Ok tt) × (found.log ≡ None → IfSome found.text (λ bytes. is_utf8 bytes ≡ true))
