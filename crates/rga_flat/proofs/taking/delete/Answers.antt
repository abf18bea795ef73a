use Rattle.std.proofs.Common.{is_some, sym, ap, ◌∙◌}
use Rattle.rga_ops.proofs.ContentLaws.{within_join}
use Rattle.rga_flat.proofs.FlatLaws.{flat_deleted, flat_still, based_more}
use Rattle.rga_flat.proofs.taking.delete.Goals as goal

pub returns-in-None-clause-flat : goal.returns-in-None-clause-flat
returns-in-None-clause-flat c = rw c.in_ok-delete.ensures.ok (flat_still _ _ _ _ _ c.requires.flat (sym c.near_if_complete-found.ensures ∙ ap is_some c.in-None.is))

pub returns-in-None-clause-based : goal.returns-in-None-clause-based
returns-in-None-clause-based c = λ base b. rw c.in_ok-delete.ensures.ok (based_more _ _ _ _ _ (within_join _ _) b)

pub returns-in-Some-clause-flat : goal.returns-in-Some-clause-flat
returns-in-Some-clause-flat c = rw (c.in_ok-delete.ensures.ok, c.mark.ensures) (flat_deleted _ _ _ _ _ c.requires.flat)

pub returns-in-Some-clause-based : goal.returns-in-Some-clause-based
returns-in-Some-clause-based c = λ base b. rw c.in_ok-delete.ensures.ok (based_more _ _ _ _ _ (within_join _ _) b)
