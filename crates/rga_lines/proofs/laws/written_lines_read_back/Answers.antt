use Rattle.rga_lines.proofs.ReadBack.{line_back, operation_back}
use Rattle.rga_lines.proofs.laws.written_lines_read_back.Goals as goal

pub returns : goal.returns
returns c = record { any = line_back; operation = operation_back }
