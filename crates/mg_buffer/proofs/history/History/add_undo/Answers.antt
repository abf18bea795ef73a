use Rattle.mg_buffer.proofs.Prelude.{sym, subst, ap, ◌∙◌, arith, PastList, AreRising, all_substituted, deleted_ones, latest, newest_restored, past_at, restored_by, stand_in, substituted, with_group}
use Rattle.mg_buffer.proofs.GroupLaws.{map-with_group}
use Rattle.mg_buffer.proofs.RestoredLaws.{AreNotRestored, none_again, past_not_restored, restored_more, rising_on}
use Rattle.mg_buffer.proofs.history.History.add_undo.Goals as goal

-- what was restored stands in no group any more
pub restore_all-requires-clause-first : goal.restore_all-requires-clause-first
restore_all-requires-clause-first c =
    let rs = c.self.inside.restored.entries in
    let r = c.requires.restores in
    let own = past_not_restored rs c.self.inside.groups.items r.index c.self.invariant in
    none_again rs c.args.ops.now (subst (AreNotRestored rs) (ap (λ (h : PastList). deleted_ones (past_at h.pasts r.index).deleted) c.self.view_is ∙ sym r.same) own) r.apart

pub invariant_of-self : goal.invariant_of-self
invariant_of-self c =
    let rs = c.self.inside.restored.entries in
    let r = c.requires.restores in
    subst AreRising (sym c.restore_all.ensures) (rising_on r.bound rs (restored_by c.args.ops.now) c.self.invariant (omega (arith, r.known, ap newest_restored c.self.view_is)) r.old r.newer)

pub returns-clause-pasts : goal.returns-clause-pasts
returns-clause-pasts c =
    let rs = c.self.inside.restored.entries in
    let groups = c.self.inside.groups.items in
    let pasts = ap (λ (h : PastList). h.pasts) c.self.view_is in
    let settled = ap (λ (h : PastList). substituted (latest h.restored) c.args.change) c.self.view_is ∙ c.requires.settled in
    (λ k. all_substituted (latest (c.restore_all.ensures k)) (c.add_group.ensures k))
    ∙ restored_more rs c.args.ops.now (with_group groups c.args.change c.args.ops.now)
    ∙ ap (all_substituted (stand_in c.args.ops.now)) (map-with_group (substituted (latest rs)) groups c.args.change c.args.ops.now ∙ (λ k. with_group (pasts k) (settled k) c.args.ops.now))
