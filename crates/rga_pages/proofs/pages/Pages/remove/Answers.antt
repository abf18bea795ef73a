use Rattle.std.proofs.Common.{sym, ap, ◌∙◌, subst}
use Rattle.std.specs.Prelude.{None}
use Rattle.std.specs.Map.{remove_entry}
use Rattle.rga_ops.proofs.IdentifierLaws.{is}
use Rattle.rga_pages.specs.Pages.{record_of, AreOrdered, Updates}
use Rattle.rga_pages.proofs.EntryLaws.{updates_remove, remove_none}
use Rattle.rga_pages.proofs.pages.Pages.remove.Goals as goal

pub returns-in-Some-clause-updates : goal.returns-in-Some-clause-updates
returns-in-Some-clause-updates c =
    subst (λ es. Updates c.args.self.now es c.args.id None) (sym (c.remove_at.ensures.gone ∙ ap (remove_entry (is c.args.id)) c.self.view_is))
    (updates_remove c.args.id c.args.self.now (subst AreOrdered c.self.view_is c.self.invariant.ordered))

pub returns-in_default-clause-entries : goal.returns-in_default-clause-entries
returns-in_default-clause-entries c =
    c.self.view_is ∙ sym (remove_none c.args.id c.args.self.now (ap (record_of c.args.id) (sym c.self.view_is) ∙ c.find_record.ensures.none c.in_default.is))
