use Rattle.std.proofs.Common.{sym, ap, ◌∙◌}
use Rattle.rga_pages.specs.declared.entry.Record.{Record}
use Rattle.rga_records.proofs.RecordLaws.{mark_of, deleted_at}
use Rattle.rga_records.proofs.entries.is_marked.Goals as goal

pub returns-in-Some : goal.returns-in-Some
returns-in-Some c =
    ap (λ (r : Record). r.deleted) c.record.view_is ∙ ap mark_of (sym c.in-Some.is ∙ c.get.ensures.value) ∙ sym (deleted_at c.args.entries.now c.get.ensures.ordered c.args.id)

pub returns-in-None : goal.returns-in-None
returns-in-None c =
    ap mark_of (sym c.in-None.is ∙ c.get.ensures.value) ∙ sym (deleted_at c.args.entries.now c.get.ensures.ordered c.args.id)
