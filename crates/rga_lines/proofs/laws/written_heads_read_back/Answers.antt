use Rattle.rga_lines.proofs.ReadBack.{head_back, head_is_no_operation}
use Rattle.rga_lines.proofs.laws.written_heads_read_back.Goals as goal

pub returns : goal.returns
returns c = record { any = head_back; operation = head_is_no_operation }
