use Rattle.mg_events.proofs.ReportLemmas.{line_other}
use Rattle.mg_events.proofs.laws.a_line_of_a_log_says_the_same_as_a_report.Goals as goal

pub returns : goal.returns
returns c = line_other
