-- How many keys and reports were taken, and which reports were refused.
use Rattle.std.specs.Prelude.{ℕ, List, [], ◌∷◌, ◌++◌}
use Rattle.rga_exchange.specs.Counting.{one_more}
use Rattle.mg_events.specs.declared.status.RefusedReport.{RefusedReport}
use Rattle.mg_live.specs.FaultNames.{report_fault_name}
use Rattle.mg_live.specs.declared.fault.ReportFault.{ReportFault}

-- the keys and the reports since the start, and the numbers and the faults of the refused reports of this block
pub record Tally : Type 0 where
  pub keys : ℕ
  pub reports : ℕ
  pub refused : List (ℕ × List ℕ)

-- a refused report as it is told
abbrev pub told_refusal : RefusedReport → ℕ × List ℕ
told_refusal r = (r.number, r.fault.now)

abbrev pub no_tally : Tally
no_tally = record { keys = 0; reports = 0; refused = [] }

abbrev pub with_key : Tally → Tally
with_key t = record t { keys = one_more t.keys }

abbrev pub with_report : Tally → Tally
with_report t = record t { reports = one_more t.reports }

-- the last report was refused for that
abbrev pub with_refusal : ReportFault → Tally → Tally
with_refusal fault t = record t { refused = t.refused ++ (t.reports, report_fault_name fault) ∷ [] }
