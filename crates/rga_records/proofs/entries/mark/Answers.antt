use Rattle.std.proofs.Common.{is_some, sym, ap, ◌∙◌, subst}
use Rattle.std.specs.Prelude.{Some}
use Rattle.std.specs.Option.{option_map}
use Rattle.rga_ops.proofs.CaseSteps.{on_err_always}
use Rattle.rga_ops.specs.Content.{element}
use Rattle.rga_pages.specs.declared.entry.Record.{Record}
use Rattle.rga_pages.specs.Pages.{record_of, marked, Updates}
use Rattle.rga_records.specs.Records.{Entries, element_of_record}
use Rattle.rga_records.proofs.RecordLaws.{element_of, mark_of, is_some-char, inserted_at, content_deleted, marked_element}
use Rattle.rga_records.proofs.entries.mark.Goals as goal

pub returns-in-Some-clause-inserted : goal.returns-in-Some-clause-inserted
returns-in-Some-clause-inserted c =
    c.is_some.ensures ∙ ap (λ (r : Record). is_some r.ch) c.record.view_is ∙ sym (is_some-char c.in-Some.record)
    ∙ ap is_some (ap element_of (sym c.in-Some.is ∙ c.mark.ensures.value) ∙ sym (inserted_at c.args.entries.now c.mark.ensures.was_ordered c.args.id))

pub returns-in-Some-clause-content : goal.returns-in-Some-clause-content
returns-in-Some-clause-content c =
    let es : Entries = c.args.entries.now in
    content_deleted es c.mark.new.self c.args.id (marked (record_of c.args.id es)) c.mark.ensures.was_ordered c.mark.ensures.ordered c.mark.ensures.updates
    (marked_element (record_of c.args.id es)) (ap (λ o. mark_of (marked o)) (sym c.mark.ensures.value ∙ c.in-Some.is))

pub returns-in_err-insert-in-None-clause-growth : goal.returns-in_err-insert-in-None-clause-growth
returns-in_err-insert-in-None-clause-growth c =
    on_err_always c.from_residual.result
    (ap is_some (inserted_at c.args.entries.now c.mark.ensures.was_ordered c.args.id ∙ ap element_of (sym c.mark.ensures.value ∙ c.in-None.is)))

pub returns-in_ok-insert-in-None-clause-inserted : goal.returns-in_ok-insert-in-None-clause-inserted
returns-in_ok-insert-in-None-clause-inserted c =
    sym (ap is_some (inserted_at c.args.entries.now c.mark.ensures.was_ordered c.args.id ∙ ap element_of (sym c.mark.ensures.value ∙ c.in-None.is)))

pub returns-in_ok-insert-in-None-clause-content : goal.returns-in_ok-insert-in-None-clause-content
returns-in_ok-insert-in-None-clause-content c =
    let es : Entries = c.args.entries.now in
    let written : Record = c.marked.result in
    content_deleted es c.insert.new.self c.args.id (Some written) c.mark.ensures.was_ordered c.insert.ensures.ordered
    (subst (λ ys. Updates ys c.insert.new.self c.args.id (Some written)) (c.mark.ensures.same c.in-None.is) c.in_ok-insert-in-None.ensures.updates)
    (ap element_of_record c.marked.ensures ∙ ap (option_map (λ ch. element c.new.result.parent ch)) c.new.ensures.element ∙ ap element_of (sym c.in-None.is ∙ c.mark.ensures.value))
    (ap (λ (r : Record). r.deleted) c.marked.ensures)
