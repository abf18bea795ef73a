use Rattle.std.proofs.Common.{ap}
use Rattle.rga_ops.specs.Answer.{Facts}
use Rattle.rga_tree.proofs.tree_store.TreeStoreTextStore.is_deleted.Goals as goal

pub returns : goal.returns
returns c = ap (λ (f : Facts). f.deleted) c.find.ensures
