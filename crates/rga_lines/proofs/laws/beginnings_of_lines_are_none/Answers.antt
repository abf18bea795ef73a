use Rattle.rga_lines.proofs.BeginningLemmas.{beginning_refused, run_beginning_refused}
use Rattle.rga_lines.proofs.laws.beginnings_of_lines_are_none.Goals as goal

pub returns : goal.returns
returns c = record { operation = beginning_refused; run = run_beginning_refused }
