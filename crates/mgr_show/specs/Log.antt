-- What `mgr show` makes of a log.
use Rattle.std.specs.Prelude.{◌≡◌, ℕ, ◌+◌, List, Result, Ok, Err}
use Rattle.rga_ops.specs.Answer.{taken_one_by_one}
use Rattle.rga_ops.specs.Content.{Content, nothing}
use Rattle.rga_ops.specs.declared.op.Op.{Op}
use Rattle.rga_exchange.specs.declared.fault.LogFault.{LogFault}
use Rattle.rga_exchange.specs.declared.fault.LogFault.TheVariants as log
use Rattle.rga_exchange.specs.declared.log.LogEnd.{LogEnd}
use Rattle.rga_exchange.specs.declared.log.LogEnd.TheVariants.{Torn}
use Rattle.rga_exchange.specs.declared.log.LogRead.{LogRead}
use Rattle.rga_exchange.specs.Log.{log_outcome}
use Rattle.rga_exchange.specs.Taking.{Intake}
use Rattle.mgr_show.specs.declared.fault.ShowFault.{ShowFault}
use Rattle.mgr_show.specs.declared.fault.ShowFault.TheVariants as fault
use Rattle.mgr_show.specs.Memory.{ShowMemory}

-- the content of a log, or why its text is not shown
abbrev pub ShowOutcome : Type 0
ShowOutcome = Result Content ShowFault

abbrev pub show_fault : LogFault → ShowFault
show_fault (log.Line n e) = fault.Line n e
show_fault (log.Refused n e) = fault.Refused n e
show_fault log.Read = fault.Read
show_fault (log.Memory _) = ShowMemory

-- behind n lines; a line that was cut off is the next one
abbrev pub at_end : Content → ℕ → LogEnd → ShowOutcome
at_end c n (Torn bytes) = Err (fault.Torn (n + 1))
at_end c n end = Ok c

abbrev pub outcome_of : Content → Result LogRead LogFault → ShowOutcome
outcome_of c (Ok read) = at_end c read.lines read.end
outcome_of c (Err e) = Err (show_fault e)

-- what a log leads to, at a store that may know that many identifiers and holds c
abbrev pub shown_from : ℕ → Content → List ℕ → ShowOutcome
shown_from limit c bytes = let p = log_outcome limit c bytes in outcome_of p.0 p.1

-- a whole log
abbrev pub log_of : ℕ → List ℕ → ShowOutcome
log_of limit bytes = shown_from limit nothing bytes

-- operations were taken one after another, and nothing else was done
pub record HasFollowed (took : Intake) : Type 0 where
  pub ops : List Op
  pub taken : taken_one_by_one took.limit took.old ops ≡ Ok took.new
  pub follows : took.follows ops
