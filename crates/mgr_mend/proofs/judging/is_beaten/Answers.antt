use Rattle.std.proofs.Common.{sym, ap, subst, ◌∙◌}
use Rattle.std.proofs.lemmas.Result.{IfOk-weaker}
use Rattle.rga_ops.proofs.IdentifierLaws.{is_id-itself}
use Rattle.mgr_mend.specs.Mending.{is_beaten}
use Rattle.mgr_mend.specs.Parts.{IsLeast}
use Rattle.mgr_mend.proofs.LeastLemmas.{beaten_by_least, never_without, deletion_stays}
use Rattle.mgr_mend.proofs.judging.is_beaten.Goals as goal

pub returns-in_default : goal.returns-in_default
returns-in_default c = λ ops least there. deletion_stays ops c.in_default.field-0 ∙ ap (is_beaten ops) (sym c.in_default.is)

pub returns-in-Some : goal.returns-in-Some
returns-in-Some c = IfOk-weaker c.beats.result _ _ (λ less told ops least there.
    told ∙ beaten_by_least ops c.args.op.now c.in-Some.known c.in-Insert.id there (rw c.in-Insert.is (is_id-itself c.in-Insert.id))
    (subst (IsLeast ops c.in-Insert.id) (sym c.least_of.ensures ∙ c.in-Some.is) (least c.in-Insert.id))) c.beats.ensures

pub returns-in-None : goal.returns-in-None
returns-in-None c = λ ops least there.
    absurd (never_without ops c.args.op.now c.in-Insert.id there (rw c.in-Insert.is (is_id-itself c.in-Insert.id))
    (subst (IsLeast ops c.in-Insert.id) (sym c.least_of.ensures ∙ c.in-None.is) (least c.in-Insert.id)))
