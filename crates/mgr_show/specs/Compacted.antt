-- What `compact_log` writes.
use Rattle.std.specs.Prelude.{◌≡◌, ℕ, Bool, ◌||◌, List, [], ◌∷◌, ◌++◌, Option}
use Rattle.rga_exchange.specs.Counting.{Calls, Writes, WritesFront}
use Rattle.rga_lines.specs.Stream.{lines_of, rest_of}
use Rattle.rga_exchange.specs.DeletionRuns.{has_deletion_runs}
use Rattle.rga_exchange.specs.Sending.{StandsFor}
use Rattle.rga_exchange.specs.declared.fault.SendFault.{SendFault}
use Rattle.rga_exchange.specs.declared.fault.SendFault.TheVariants as send
use Rattle.rga_exchange.specs.Compacting.{compact_lines, compact_text}
use Rattle.mgr_show.specs.Shown.{IsAccepted, log_content}
use Rattle.mgr_show.specs.declared.fault.ShowFault.{ShowFault}
use Rattle.mgr_show.specs.declared.fault.ShowFault.TheVariants as fault
use Rattle.mgr_show.specs.Memory.{ShowMemory}

abbrev pub send_fault : SendFault → ShowFault
send_fault send.Write = fault.Write
send_fault (send.Memory _) = ShowMemory

-- the compacted lines of a log: deletions are in runs where these are asked for, and where the log has some
abbrev pub compacted_lines : Bool → List ℕ → List (List ℕ)
compacted_lines dels bytes = compact_lines (dels || has_deletion_runs bytes) (log_content bytes)

-- the same, each with its newline
abbrev pub compacted : Bool → List ℕ → List ℕ
compacted dels bytes = compact_text (dels || has_deletion_runs bytes) (log_content bytes)

-- the lines of a log, of which a rest is one
abbrev pub and_rest : List (List ℕ) → List ℕ → List (List ℕ)
and_rest lines [] = lines
and_rest lines (b ∷ rest) = lines ++ (b ∷ rest) ∷ []

abbrev pub log_lines : List ℕ → List (List ℕ)
log_lines bytes = and_rest (lines_of bytes) (rest_of bytes)

-- they stand for the same content, and the last one too ends in a newline
pub record KeepsContent (dels : Bool) (bytes : List ℕ) : Type 0 where
  pub accepted : IsAccepted bytes
  pub stands : StandsFor (compacted dels bytes) (log_content bytes)
  pub ended : rest_of (compacted dels bytes) ≡ []

module _ {W : Type 0} (contents : W → Option (List ℕ)) (old new : Calls W) where
  -- the compacted lines of an accepted log were written
  pub record Compacts (dels : Bool) (bytes : List ℕ) : Type 0 where
    pub keeps : KeepsContent dels bytes
    pub written : Writes contents old new (compacted dels bytes)

  -- a beginning of them was written
  pub record BeginsToCompact (dels : Bool) (bytes : List ℕ) : Type 0 where
    pub accepted : IsAccepted bytes
    pub begun : WritesFront contents old new (compacted dels bytes)
