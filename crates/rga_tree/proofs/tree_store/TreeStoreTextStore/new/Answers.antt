use Rattle.std.proofs.Common.{nat_le, sym, subst, arith}
use Rattle.std.proofs.lemmas.Bool.{and_from, le-leb}
use Rattle.rga_tree.specs.Tree.{IsTree}
use Rattle.rga_tree.proofs.TreeLaws.{empty_tree}
use Rattle.rga_tree.proofs.tree_store.TreeStoreTextStore.new.Goals as goal

pub invariant_of-result : goal.invariant_of-result
invariant_of-result c =
    rw c.new.ensures.empty
    (empty_tree c.args.limit (and_from (nat_le 1 c.args.limit) (nat_le c.args.limit 1000000) (le-leb 1 c.args.limit (omega arith)) (le-leb c.args.limit 1000000 (omega arith))))
