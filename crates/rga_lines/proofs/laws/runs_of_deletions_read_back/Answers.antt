use Rattle.rga_lines.proofs.ReadingLemmas.{any_deletions}
use Rattle.rga_lines.proofs.DeletionBack.{deletions_back, deletions_are_no_operation}
use Rattle.rga_lines.proofs.laws.runs_of_deletions_read_back.Goals as goal

pub returns : goal.returns
returns c = record { run = any_deletions; written = deletions_back; operation = deletions_are_no_operation }
