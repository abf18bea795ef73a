use Rattle.rga_doc.proofs.Prelude.{sym, ap, ◌∙◌, Splice}
use Rattle.rga_doc.proofs.ExcerptLaws.{begin_at_last}
use Rattle.rga_doc.proofs.edit.begin_of.Goals as goal

pub returns-in-Some : goal.returns-in-Some
returns-in-Some c =
    ap (λ (s : Splice). s.lo) c.splice.view_is
    ∙ sym (begin_at_last c.args.splices.now c.in-Some.splice.now (sym c.in-Some.ensures.value))
