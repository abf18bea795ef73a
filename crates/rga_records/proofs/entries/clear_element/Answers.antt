use Rattle.std.proofs.Common.{◌≡◌, true, is_some, refl, sym, ap, ◌∙◌, subst}
use Rattle.std.proofs.lemmas.Bool.{not-true, not-false}
use Rattle.std.specs.Prelude.{Some, None}
use Rattle.std.specs.Option.{option_map}
use Rattle.rga_ops.specs.Content.{element}
use Rattle.rga_pages.specs.declared.entry.Record.{Record}
use Rattle.rga_pages.specs.Pages.{record_of, Updates}
use Rattle.rga_records.specs.Records.{element_of_record}
use Rattle.rga_records.proofs.RecordLaws.{mark_of, some_marked, deleted_at, content_uninserted}
use Rattle.rga_records.proofs.entries.clear_element.Goals as goal

pub returns-then-not-record-clause-deleted : goal.returns-then-not-record-clause-deleted
returns-then-not-record-clause-deleted c =
    sym (not-true _ c.if-not-record.true) ∙ ap (λ (r : Record). r.deleted) c.record.view_is ∙ c.found_or_new-record.ensures.mark ∙ ap mark_of c.look_up.ensures.value
    ∙ sym (deleted_at c.args.entries.now c.look_up.ensures.ordered c.args.id)

pub returns-then-not-record-clause-content : goal.returns-then-not-record-clause-content
returns-then-not-record-clause-content c =
    content_uninserted c.args.entries.now c.remove.new.self c.args.id None c.look_up.ensures.ordered c.remove.ensures.ordered
    (subst (λ es. Updates es c.remove.new.self c.args.id None) c.look_up.ensures.same c.remove.ensures.updates) refl
    (sym (not-true _ c.if-not-record.true) ∙ ap (λ (r : Record). r.deleted) c.record.view_is ∙ c.found_or_new-record.ensures.mark ∙ ap mark_of c.look_up.ensures.value)

is_deleted : (c : goal.After-set) → true ≡ mark_of (record_of c.args.id c.args.entries.now)
is_deleted c = sym (not-false _ c.if-not-record.false) ∙ ap (λ (r : Record). r.deleted) c.record.view_is ∙ c.found_or_new-record.ensures.mark ∙ ap mark_of c.look_up.ensures.value

pub returns-clause-deleted : goal.returns-clause-deleted
returns-clause-deleted c = is_deleted c ∙ sym (deleted_at c.args.entries.now c.look_up.ensures.ordered c.args.id)

pub returns-clause-content : goal.returns-clause-content
returns-clause-content c =
    let written : Record = c.marked.result in
    content_uninserted c.args.entries.now c.set.new.self c.args.id (Some written) c.look_up.ensures.ordered c.set.ensures.ordered
    (subst (λ es. Updates es c.set.new.self c.args.id (Some written)) c.look_up.ensures.same
    (c.set.ensures.updates (ap (λ es. is_some (record_of c.args.id es)) c.look_up.ensures.same ∙ some_marked (record_of c.args.id c.args.entries.now) (sym (is_deleted c)))))
    (ap element_of_record c.marked.ensures ∙ ap (option_map (λ ch. element c.new.result.parent ch)) c.new.ensures.element)
    (ap (λ (r : Record). r.deleted) c.marked.ensures ∙ is_deleted c)
