use Rattle.mgr_port.proofs.WorldLaws.{bare, linked, copied}
use Rattle.mgr_port.proofs.laws.a_path_that_goes_loses_nothing.Goals as goal

pub returns-clause-nothing : goal.returns-clause-nothing
returns-clause-nothing c path found a b nothing shown alone = bare path found a b nothing shown alone

pub returns-clause-linked : goal.returns-clause-linked
returns-clause-linked c path name a b e is alone = linked path name a b e is alone

pub returns-clause-copied : goal.returns-clause-copied
returns-clause-copied c path name bytes file a b e d stood read alone made later = copied path name bytes file a b e d stood read alone made later
