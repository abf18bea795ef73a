use Rattle.std.proofs.Common.{is_some, sym, ap, ◌∙◌}
use Rattle.rga_records.proofs.RecordLaws.{element_of, inserted_at}
use Rattle.rga_records.proofs.entries.near_of.Goals as goal

pub returns-in_err-get : goal.returns-in_err-get
returns-in_err-get c =
    ap is_some c.from_residual.ensures
    ∙ ap is_some (ap element_of (sym c.in_err-get.was ∙ c.get.ensures.value) ∙ sym (inserted_at c.args.entries.now c.get.ensures.ordered c.args.id))

pub returns : goal.returns
returns c =
    c.near_if_inserted.ensures
    ∙ ap is_some (ap element_of (sym c.in_ok-get.was ∙ c.get.ensures.value) ∙ sym (inserted_at c.args.entries.now c.get.ensures.ordered c.args.id))
