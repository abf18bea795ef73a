-- A log that was read for what it holds.
use Rattle.std.specs.Prelude.{◌≡◌, ℕ, List, Ok}
use Rattle.rga_ops.specs.Content.{Content, nothing}
use Rattle.rga_store.specs.declared.text_store.TheConstants.{MAX_LIMIT}
use Rattle.rga_exchange.specs.declared.log.LogRead.{LogRead}
use Rattle.rga_exchange.specs.Log.{log_outcome}
use Rattle.mgr_show.specs.Shown.{log_content}
use Rattle.mgr_show.specs.Note.{IsReadable}

-- The operations of the log agree, and they alone were taken. What stands after the last newline was left out if it is
-- no operation.
pub record IsRead (bytes : List ℕ) (c : Content) (read : LogRead) : Type 0 where
  pub readable : IsReadable bytes
  pub content : c ≡ log_content bytes
  pub ended : (log_outcome MAX_LIMIT nothing bytes).1 ≡ Ok read
