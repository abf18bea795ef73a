use Rattle.std.proofs.Common.{ap, ◌∙◌}
use Rattle.std.specs.Prelude.{Some}
use Rattle.rga_ops.proofs.CaseSteps.{on_ok_map, on_err_map}
use Rattle.rga_pages.specs.declared.entry.Record.{Record}
use Rattle.rga_records.specs.Records.{content_of_records, element_of_record}
use Rattle.rga_records.proofs.RecordLaws.{deleted_at, content_inserted}
use Rattle.rga_records.proofs.entries.set_element.Goals as goal

pub returns-clause-content : goal.returns-clause-content
returns-clause-content c =
    let written : Record = c.inserted-record.result in
    on_ok_map c.insert.result
    (λ updates. content_inserted c.args.entries.now c.insert.new.self c.args.id (Some written) c.insert.ensures.was_ordered c.insert.ensures.ordered updates
    c.args.parent c.args.ch (ap element_of_record c.inserted-record.ensures) (ap (λ (r : Record). r.deleted) c.inserted-record.ensures ∙ c.requires.deleted ∙ deleted_at c.args.entries.now c.insert.ensures.was_ordered c.args.id) c.requires.absent)
    c.insert.ensures.updates

pub returns-clause-same : goal.returns-clause-same
returns-clause-same c = on_err_map c.insert.result (ap content_of_records) c.insert.ensures.err
