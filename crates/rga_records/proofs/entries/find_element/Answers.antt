use Rattle.std.proofs.Common.{sym, ap, ◌∙◌}
use Rattle.rga_store.proofs.ElementSteps.{pair_of}
use Rattle.rga_records.proofs.RecordLaws.{element_of, element_shown, inserted_at}
use Rattle.rga_records.proofs.entries.find_element.Goals as goal

pub returns-in_err-get : goal.returns-in_err-get
returns-in_err-get c =
    c.from_residual.ensures
    ∙ ap pair_of (ap element_of (sym c.in_err-get.was ∙ c.get.ensures.value) ∙ sym (inserted_at c.args.entries.now c.get.ensures.ordered c.args.id))

pub returns : goal.returns
returns c =
    c.element.ensures
    ∙ sym (element_shown c.in_ok-get.field-0)
    ∙ ap pair_of (ap element_of (sym c.in_ok-get.was ∙ c.get.ensures.value) ∙ sym (inserted_at c.args.entries.now c.get.ensures.ordered c.args.id))
