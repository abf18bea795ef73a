use Rattle.std.proofs.Common.{◌≡◌, cond, sym, ap, ◌∙◌, subst}
use Rattle.std.specs.Prelude.{Some, None}
use Rattle.rga_ops.proofs.IdentifierLaws.{is}
use Rattle.rga_pages.specs.Pages.{Entries, record_of, marked, Updates}
use Rattle.rga_pages.proofs.EntryLaws.{updates_none}
use Rattle.rga_pages.proofs.pages.Pages.mark.Goals as goal

pub returns-in-Some-clause-updates : goal.returns-in-Some-clause-updates
returns-in-Some-clause-updates c = λ q.
    let found : record_of c.args.id c.args.self.now ≡ Some c.in-Some.found.1 = ap (record_of c.args.id) (sym c.self.view_is) ∙ c.in-Some.ensures.record in
    c.overwrite.ensures.updates q
    ∙ (λ k. cond (is c.args.id q) ((ap Some c.marked.ensures ∙ ap marked (sym found)) k) (record_of q (c.self.view_is k)))

pub returns-in-None-clause-updates : goal.returns-in-None-clause-updates
returns-in-None-clause-updates c =
    let es : Entries = c.args.self.now in
    let none : record_of c.args.id es ≡ None = ap (record_of c.args.id) (sym c.self.view_is) ∙ c.find_record.ensures.none c.in-None.is in
    subst (λ fs. Updates es fs c.args.id (marked (record_of c.args.id es))) (sym c.self.view_is)
    (subst (λ o. Updates es es c.args.id (marked o)) (sym none) (updates_none es c.args.id none))
