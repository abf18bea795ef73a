use Rattle.std.proofs.Common.{cond, sym, ap, ◌∙◌}
use Rattle.std.specs.Prelude.{Some}
use Rattle.rga_ops.proofs.IdentifierLaws.{is}
use Rattle.rga_pages.specs.Pages.{record_of}
use Rattle.rga_pages.proofs.EntryLaws.{set_none}
use Rattle.rga_pages.proofs.pages.Pages.set.Goals as goal

pub returns-in-Some-clause-updates : goal.returns-in-Some-clause-updates
returns-in-Some-clause-updates c = λ _ q. c.overwrite.ensures.updates q ∙ (λ k. cond (is c.args.id q) (Some c.args.value) (record_of q (c.self.view_is k)))

pub returns-in_default-clause-entries : goal.returns-in_default-clause-entries
returns-in_default-clause-entries c =
    c.self.view_is ∙ sym (set_none c.args.id c.args.value c.args.self.now (ap (record_of c.args.id) (sym c.self.view_is) ∙ c.find_record.ensures.none c.in_default.is))
