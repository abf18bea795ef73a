use Rattle.rga_lines.proofs.ReadingLemmas.{any_run}
use Rattle.rga_lines.proofs.RunBack.{run_back}
use Rattle.rga_lines.proofs.laws.runs_read_back.Goals as goal

pub returns : goal.returns
returns c = record { run = any_run; written = run_back }
