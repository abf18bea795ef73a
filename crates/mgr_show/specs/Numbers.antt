-- What is counted in a log.
use Rattle.std.specs.Prelude.{◌≡◌, ◌⊎◌, ℕ, List, length, if◌then◌else◌, Ok, Err}
use Rattle.std.specs.Str.{bytes_eq}
use Rattle.rga_ops.specs.Content.{nothing}
use Rattle.rga_store.specs.declared.text_store.TheConstants.{MAX_LIMIT}
use Rattle.rga_exchange.specs.Counting.{one_more}
use Rattle.rga_exchange.specs.declared.log.LogRead.{LogRead}
use Rattle.rga_exchange.specs.Log.{log_outcome}
use Rattle.mgr_show.specs.Shown.{log_content}
use Rattle.mgr_show.specs.Joined.{IsOfFile}
use Rattle.mgr_show.specs.Note.{IsReadable}
use Rattle.mgr_show.specs.Sources.{failures_after}
use Rattle.mgr_show.specs.declared.fault.ShowFault.{ShowFault}
use Rattle.mgr_show.specs.Counts.{AreCounts}
use Rattle.mgr_show.specs.declared.numbers.TextIs.{TextIs}
use Rattle.mgr_show.specs.declared.numbers.TextIs.TheVariants.{Same, Other, Unread}
use Rattle.mgr_show.specs.declared.numbers.Numbers.{Numbers}

-- whether these bytes are the text
abbrev pub text_is : List ℕ → List ℕ → TextIs
text_is bytes text = if bytes_eq bytes text then Same else Other

-- the log can be read, and these are the numbers of its operations, of its bytes, and how it ends
pub record AreNumbers (bytes : List ℕ) (n : Numbers) : Type 0 where
  pub readable : IsReadable bytes
  pub counts : AreCounts n.counts (log_content bytes)
  pub long : n.bytes ≡ length bytes
  pub read : LogRead
  pub ended : (log_outcome MAX_LIMIT nothing bytes).1 ≡ Ok read
  pub end : n.end ≡ read.end

-- ---- how many reads failed

-- after the text was looked at: one that can't be read is no fault, and is told as unread
abbrev pub failures_of_look : TextIs → ℕ → ℕ
failures_of_look Unread n = one_more n
failures_of_look is n = n

-- after this fault: behind the log that of the text may have failed too
abbrev pub FailedReads : ShowFault → ℕ → ℕ → Type 0
FailedReads e failed failing =
    (failing ≡ failures_after {A = Unit {0}} (Err e) failed) ⊎ ((¬ (IsOfFile e)) × (failing ≡ one_more failed))
