use Rattle.rga_exchange.proofs.FewLinesLaws.{first_apart, no_more_lines}
use Rattle.rga_exchange.proofs.laws.compaction.compacted_lines_are_no_more.Goals as goal

pub returns-clause-apart : goal.returns-clause-apart
returns-clause-apart c = first_apart

pub returns-clause-number : goal.returns-clause-number
returns-clause-number c = no_more_lines
