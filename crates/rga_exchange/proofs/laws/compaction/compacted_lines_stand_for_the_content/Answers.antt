use Rattle.rga_exchange.proofs.CompactLaws.{compact_stands}
use Rattle.rga_exchange.proofs.laws.compaction.compacted_lines_stand_for_the_content.Goals as goal

pub returns : goal.returns
returns c = λ content dels sound writable. compact_stands content sound writable dels
