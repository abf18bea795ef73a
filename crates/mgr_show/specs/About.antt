-- What is written about the log of a note.
use Rattle.std.specs.Prelude.{ℕ, List, Option}
use Rattle.rga_store.specs.declared.text_store.TheConstants.{MAX_LIMIT}
use Rattle.rga_exchange.specs.Counting.{Calls, Writes, WritesFront}
use Rattle.mgr_show.specs.Log.{ShowOutcome}
use Rattle.mgr_show.specs.Note.{note_of, IsReadable}

-- what a log leads to, or the fault of its first line that is not taken
abbrev pub read_of : List ℕ → ShowOutcome
read_of bytes = note_of MAX_LIMIT bytes

module _ {W : Type 0} (contents : W → Option (List ℕ)) (old new : Calls W) where
  -- of a log that can be read this was written
  pub record WritesAbout (bytes text : List ℕ) : Type 0 where
    pub readable : IsReadable bytes
    pub written : Writes contents old new text

  -- a beginning of it was written
  pub record BeginsToWriteAbout (bytes text : List ℕ) : Type 0 where
    pub readable : IsReadable bytes
    pub begun : WritesFront contents old new text
