-- The log of a note, and what `show_note` shows of it.
use Rattle.std.specs.Prelude.{◌≡◌, ℕ, ◌-◌, ◌==◌, if◌then◌else◌, List, [], ◌∷◌, ◌++◌, Option, Some, None, Result, Ok, Err, codes}
use Rattle.std.specs.Str.{bytes_eq}
use Rattle.rga_ops.specs.Content.{Content, nothing, IsAgreed}
use Rattle.rga_lines.specs.Log.{log_operations}
use Rattle.rga_lines.specs.Stream.{newline}
use Rattle.rga_store.specs.declared.text_store.TheConstants.{MAX_LIMIT}
use Rattle.rga_exchange.specs.declared.fault.LogFault.{LogFault}
use Rattle.rga_exchange.specs.declared.log.LogRead.{LogRead}
use Rattle.rga_exchange.specs.Log.{log_outcome}
use Rattle.mgr_show.specs.Log.{ShowOutcome, show_fault}
use Rattle.mgr_show.specs.Shown.{log_content}

-- the log of a note with this name
abbrev pub log_name : List ℕ → List ℕ
log_name name = name ++ codes ".ops"

-- the name under which the log of a note is read: `-` is taken as it is
unfoldable pub log_source : List ℕ → List ℕ
log_source name = if bytes_eq name (codes "-") then name else log_name name

-- the first n lines, each with its newline; all bytes, if there are no more lines
abbrev pub first_lines : ℕ → List ℕ → List ℕ
first_lines n [] = []
first_lines n (b ∷ bytes) = if n == 0 then [] else b ∷ first_lines (if b == newline then n - 1 else n) bytes

-- what is shown of a log, if so many lines are asked for
abbrev pub front_of : Option ℕ → List ℕ → List ℕ
front_of None bytes = bytes
front_of (Some n) bytes = first_lines n bytes

-- the content of a log, or its first fault; a last line that was cut off is left out
abbrev pub but_torn : Content → Result LogRead LogFault → ShowOutcome
but_torn c (Ok read) = Ok c
but_torn c (Err e) = Err (show_fault e)

abbrev pub note_from : ℕ → Content → List ℕ → ShowOutcome
note_from limit c bytes = let p = log_outcome limit c bytes in but_torn p.0 p.1

abbrev pub note_of : ℕ → List ℕ → ShowOutcome
note_of limit bytes = note_from limit nothing bytes

-- the log is accepted but for a last line that was cut off: its operations agree, and what they lead to is their content
pub record IsReadable (bytes : List ℕ) : Type 0 where
  pub agreed : IsAgreed (log_operations bytes)
  pub content : note_of MAX_LIMIT bytes ≡ Ok (log_content bytes)
