use Rattle.std.proofs.Common.{subst, ◌∙◌}
use Rattle.mgr_mend.specs.Parts.{AreWritableIfSound}
use Rattle.mgr_mend.proofs.NoteLaws.{told_ok}
use Rattle.mgr_mend.proofs.StayingLaws.{whole_writable}
use Rattle.mgr_mend.proofs.mended.mend_log.Goals as goal

pub returns-clause-writable : goal.returns-clause-writable
returns-clause-writable c =
    told_ok c.mend_lines.result (whole_writable c.args.bytes.now (subst AreWritableIfSound (c.deref.ensures.value ∙ c.in_ok-read.ensures.ops) c.in_ok-judged.ensures.writable))
