use Rattle.rga_doc.proofs.Prelude.{◌≡◌, drop, contains, is_id, are_restorable}
use Rattle.rga_doc.proofs.RevertSets.{left_able}
use Rattle.rga_doc.proofs.revert.check_restorable.Given as goal

-- what is left decides
abbrev pub invariant-loop-element : goal.invariant-loop-element
invariant-loop-element g l = left_able (g.S.Taker.content l.store) (contains is_id l.seen) (drop l.element-index l.back) ≡ are_restorable (g.S.Taker.content l.store) l.back
