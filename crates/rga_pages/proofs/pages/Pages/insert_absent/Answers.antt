use Rattle.std.proofs.Common.{sym, ap, ◌∙◌, subst}
use Rattle.std.specs.Prelude.{Some}
use Rattle.std.specs.BTreeMap.{insert_entry}
use Rattle.rga_ops.specs.Identifier.{id_cmp}
use Rattle.rga_pages.specs.Pages.{record_of, Updates}
use Rattle.rga_pages.proofs.EntryLaws.{updates_insert}
use Rattle.rga_pages.proofs.SpotLaws.{record_none}
use Rattle.rga_pages.proofs.pages.Pages.insert_absent.Goals as goal

pub returns-then-has_room-clause-updates : goal.returns-then-has_room-clause-updates
returns-then-has_room-clause-updates c = λ _.
    subst (λ es. Updates c.args.self.now es c.args.id (Some c.args.value)) (sym (c.in_ok-write.ensures.ok ∙ ap (λ es. insert_entry id_cmp es c.args.id c.args.value) c.self.view_is))
    (updates_insert c.args.id c.args.value c.args.self.now)

pub returns-then-has_room-clause-absent : goal.returns-then-has_room-clause-absent
returns-then-has_room-clause-absent c = λ _. ap (record_of c.args.id) (sym c.self.view_is) ∙ record_none c.find-spot.ensures.spot c.if-spot.false c.self.invariant.ordered

pub returns-clause-updates : goal.returns-clause-updates
returns-clause-updates c = λ _.
    subst (λ es. Updates c.args.self.now es c.args.id (Some c.args.value)) (sym (c.in_ok-put.ensures.ok ∙ ap (λ es. insert_entry id_cmp es c.args.id c.args.value) c.self.view_is))
    (updates_insert c.args.id c.args.value c.args.self.now)

pub returns-clause-absent : goal.returns-clause-absent
returns-clause-absent c = λ _. ap (record_of c.args.id) (sym c.self.view_is) ∙ record_none c.find-spot.ensures.spot c.if-spot.false c.self.invariant.ordered
