use Rattle.std.proofs.Common.{sym, ap, ◌∙◌, subst}
use Rattle.std.specs.Prelude.{Some}
use Rattle.std.specs.BTreeMap.{insert_entry}
use Rattle.rga_ops.specs.Identifier.{id_cmp}
use Rattle.rga_pages.specs.Pages.{Updates}
use Rattle.rga_pages.proofs.EntryLaws.{updates_insert}
use Rattle.rga_pages.proofs.pages.Pages.insert.Goals as goal

pub returns-in-Some-clause-updates : goal.returns-in-Some-clause-updates
returns-in-Some-clause-updates c =
    subst (λ es. Updates c.args.self.now es c.args.id (Some c.args.value)) (sym (c.in_ok-write.ensures.ok ∙ ap (λ es. insert_entry id_cmp es c.args.id c.args.value) c.self.view_is))
    (updates_insert c.args.id c.args.value c.args.self.now)

pub returns-clause-updates : goal.returns-clause-updates
returns-clause-updates c =
    subst (λ es. Updates c.args.self.now es c.args.id (Some c.args.value)) (sym (c.in_ok-spot.ensures.ok ∙ ap (λ es. insert_entry id_cmp es c.args.id c.args.value) c.self.view_is))
    (updates_insert c.args.id c.args.value c.args.self.now)
