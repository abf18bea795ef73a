use Rattle.rga_lines.proofs.ReadBack.{end_back, end_is_no_operation}
use Rattle.rga_lines.proofs.laws.written_ends_read_back.Goals as goal

pub returns : goal.returns
returns c = record { any = end_back; operation = end_is_no_operation }
