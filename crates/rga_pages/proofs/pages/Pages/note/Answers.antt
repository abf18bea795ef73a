use Rattle.std.proofs.Common.{◌≡◌, cond, sym, ap, ◌∙◌}
use Rattle.std.specs.Prelude.{Some}
use Rattle.rga_ops.proofs.IdentifierLaws.{is}
use Rattle.rga_pages.specs.Pages.{record_of, noted}
use Rattle.rga_pages.proofs.pages.Pages.note.Goals as goal

pub returns-in-Some-clause-updates : goal.returns-in-Some-clause-updates
returns-in-Some-clause-updates c = λ q.
    let found : record_of c.args.id c.args.self.now ≡ Some c.in-Some.found.1 = ap (record_of c.args.id) (sym c.self.view_is) ∙ c.in-Some.ensures.record in
    c.overwrite.ensures.updates q
    ∙ (λ k. cond (is c.args.id q) ((ap Some c.moved.ensures ∙ ap (noted c.args.block c.args.index) (sym found)) k) (record_of q (c.self.view_is k)))
