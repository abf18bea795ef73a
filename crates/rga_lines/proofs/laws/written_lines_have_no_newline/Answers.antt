use Rattle.rga_lines.proofs.NewlineLemmas.{line_has_none, run_has_none, deletions_have_none, head_has_none, end_has_none}
use Rattle.rga_lines.proofs.laws.written_lines_have_no_newline.Goals as goal

pub returns : goal.returns
returns c = record { operation = line_has_none; run = run_has_none; deletions = deletions_have_none; head = head_has_none; end = end_has_none }
