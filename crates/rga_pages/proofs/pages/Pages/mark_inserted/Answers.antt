use Rattle.std.proofs.Common.{◌≡◌, cond, sym, ap, ◌∙◌}
use Rattle.std.specs.Prelude.{Some}
use Rattle.rga_ops.proofs.IdentifierLaws.{is}
use Rattle.rga_pages.specs.Pages.{record_of, marked}
use Rattle.rga_pages.proofs.pages.Pages.mark_inserted.Goals as goal

pub returns-else-is_none-clause-updates : goal.returns-else-is_none-clause-updates
returns-else-is_none-clause-updates c = λ _ q.
    let found : record_of c.args.id c.args.self.now ≡ Some c.in-Some.found.1 = ap (record_of c.args.id) (sym c.self.view_is) ∙ c.in-Some.ensures.record in
    c.overwrite.ensures.updates q
    ∙ (λ k. cond (is c.args.id q) ((ap Some c.marked.ensures ∙ ap marked (sym found)) k) (record_of q (c.self.view_is k)))
