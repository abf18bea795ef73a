use Rattle.std.proofs.Common.{◌≡◌, sym, ap, ◌∙◌}
use Rattle.std.specs.Prelude.{Some, None}
use Rattle.rga_ops.proofs.CaseSteps.{on_err_map}
use Rattle.rga_pages.specs.declared.entry.Record.{Record}
use Rattle.rga_pages.specs.Pages.{record_of}
use Rattle.rga_records.specs.Records.{Entries, element_of_record}
use Rattle.rga_records.proofs.RecordLaws.{element_of, mark_of, inserted_at, deleted_at, content_inserted}
use Rattle.rga_records.proofs.entries.add_element.Goals as goal

pub returns-clause-refused : goal.returns-clause-refused
returns-clause-refused c =
    on_err_map c.insert_absent.result (λ none. inserted_at c.args.entries.now c.insert_absent.ensures.was_ordered c.args.id ∙ ap element_of none) c.insert_absent.ensures.refused

pub returns-clause-absent : goal.returns-clause-absent
returns-clause-absent c = λ t.
    inserted_at c.args.entries.now c.insert_absent.ensures.was_ordered c.args.id ∙ ap element_of (c.insert_absent.ensures.absent t)

pub returns-clause-unmarked : goal.returns-clause-unmarked
returns-clause-unmarked c = λ t.
    deleted_at c.args.entries.now c.insert_absent.ensures.was_ordered c.args.id ∙ ap mark_of (c.insert_absent.ensures.absent t)

pub returns-clause-content : goal.returns-clause-content
returns-clause-content c = λ t.
    let es : Entries = c.args.entries.now in
    let written : Record = c.inserted.result in
    let absent : record_of c.args.id es ≡ None = c.insert_absent.ensures.absent t in
    content_inserted es c.insert_absent.new.self c.args.id (Some written) c.insert_absent.ensures.was_ordered c.insert_absent.ensures.ordered (c.insert_absent.ensures.updates t)
    c.args.parent c.args.ch (ap element_of_record c.inserted.ensures) (ap (λ (r : Record). r.deleted) c.inserted.ensures ∙ ap mark_of (sym absent)) (inserted_at es c.insert_absent.ensures.was_ordered c.args.id ∙ ap element_of absent)
