-- What is told of files that are read.
use Rattle.std.specs.Prelude.{ℕ, Result, Err}
use Rattle.rga_exchange.specs.Counting.{one_more}
use Rattle.mgr_show.specs.declared.fault.ShowFault.{ShowFault}
use Rattle.mgr_show.specs.declared.fault.ShowFault.TheVariants as fault

-- how many reads failed, after this answer to one more
abbrev pub failures_after : {A : Type 0} → Result A ShowFault → ℕ → ℕ
failures_after (Err fault.Read) n = one_more n
failures_after r n = n
