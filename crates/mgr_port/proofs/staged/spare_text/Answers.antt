use Rattle.mgr_port.proofs.FolderLaws.{text_kept, text_idle}
use Rattle.mgr_port.proofs.staged.spare_text.Goals as goal

pub returns-in-None-clause-kept : goal.returns-in-None-clause-kept
returns-in-None-clause-kept g c = text_kept _ _ _ _ _ _ _ _ c.in-None.is c.in_ok-spare.ensures.shown c.keep.ensures.kept

pub returns-in-None-clause-idle : goal.returns-in-None-clause-idle
returns-in-None-clause-idle g c = text_idle _ _ _ _ _ _ _ _ c.in-None.is c.in_ok-spare.ensures.shown c.keep.ensures.idle
