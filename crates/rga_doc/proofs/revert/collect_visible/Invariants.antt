use Rattle.rga_doc.proofs.Prelude.{◌≡◌, ◌++◌, filter, drop, contains, is_id, is_visible, distinct_elements}
use Rattle.rga_doc.proofs.RevertSets.{new_only}
use Rattle.rga_doc.proofs.revert.collect_visible.Given as goal

-- the new ones of what is left complete those so far
abbrev pub invariant-loop-id : goal.invariant-loop-id
invariant-loop-id g l = l.kept.items ++ new_only (contains is_id l.seen) (distinct_elements (filter (is_visible (g.S.Taker.content l.store)) (drop l.id-index l.ids))) ≡ distinct_elements (filter (is_visible (g.S.Taker.content l.store)) l.ids)
