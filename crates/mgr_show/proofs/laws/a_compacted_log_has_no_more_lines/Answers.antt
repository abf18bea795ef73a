use Rattle.mgr_show.proofs.LineCountLaws.{no_more_than_read}
use Rattle.mgr_show.proofs.laws.a_compacted_log_has_no_more_lines.Goals as goal

pub returns : goal.returns
returns c = no_more_than_read
