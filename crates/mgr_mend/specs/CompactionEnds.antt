-- What becomes of the log of a note that is to be compacted.
use Rattle.std.specs.Prelude.{◌≡◌, ◌⊎◌, ℕ, Bool, Option, Some, Result, Ok, Err}
use Rattle.rga_exchange.specs.Counting.{one_more}
use Rattle.mgr_port.specs.Disk.{whole_steps}
use Rattle.mgr_port.specs.Logs.{Standing, StaysSame, StopsEarly, renamed}
use Rattle.mgr_show.specs.Compacted.{KeepsContent, compacted}
use Rattle.mgr_show.specs.declared.fault.ShowFault.{ShowFault}
use Rattle.mgr_show.specs.declared.fault.ShowFault.TheVariants as fault

module _ (dels : Bool) (s : Standing) (found : Option Standing) where
  -- it is written anew, for the same content, and each step was made
  abbrev pub EndsWell : Type 0
  EndsWell = KeepsContent dels s.log × (found ≡ Some (renamed whole_steps (compacted dels s.log)))

  -- An error was answered: at least one step is missing, and where that is the last alone the new log stands there, for the
  -- same content; else the old one.
  abbrev pub EndsEarly : Type 0
  EndsEarly = StaysSame s found ⊎ (KeepsContent dels s.log × StopsEarly (compacted dels s.log) s found)

-- how many calls failed: one more where one is at fault
abbrev pub failures_after_fault : ShowFault → ℕ → ℕ
failures_after_fault fault.Read n = one_more n
failures_after_fault fault.Write n = one_more n
failures_after_fault e n = n

abbrev pub failures_after_compaction : {A : Type 0} → Result A ShowFault → ℕ → ℕ
failures_after_compaction (Ok a) n = n
failures_after_compaction (Err fault) n = failures_after_fault fault n
