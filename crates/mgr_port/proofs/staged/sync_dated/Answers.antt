use Rattle.mgr_port.proofs.FolderLaws.{still_dated}
use Rattle.mgr_port.proofs.staged.sync_dated.Goals as goal

pub returns-clause-dated : goal.returns-clause-dated
returns-clause-dated g c = still_dated _ _ _ _ _ _ _ _ c.give_date.ensures c.sync.ensures.step
