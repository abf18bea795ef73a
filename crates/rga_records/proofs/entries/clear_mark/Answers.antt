use Rattle.std.proofs.Common.{◌≡◌, true, false, is_some, refl, sym, ap, ◌∙◌, subst, true≢false}
use Rattle.std.specs.Prelude.{Some, None, Option}
use Rattle.rga_ops.specs.Content.{Element}
use Rattle.rga_pages.specs.declared.entry.Record.{Record}
use Rattle.rga_pages.specs.Pages.{record_of, Updates}
use Rattle.rga_records.specs.Records.{element_of_record}
use Rattle.rga_records.proofs.RecordLaws.{element_of, is_some-char, some_inserted, inserted_at, content_undeleted}
use Rattle.rga_records.proofs.entries.clear_mark.Goals as goal

-- an element that is not there
none_there : (o : Option Element) → is_some o ≡ false → None ≡ o
none_there None h = refl
none_there (Some x) h = absurd (true≢false h)

absent : (c : goal.After-remove) → None ≡ element_of (record_of c.args.id c.args.entries.now)
absent c =
    none_there (element_of_record c.found_or_new-record.result) (is_some-char c.found_or_new-record.result ∙ ap (λ (r : Record). is_some r.ch) (sym c.record.view_is) ∙ c.if-is_none.ensures)
    ∙ c.found_or_new-record.ensures.element ∙ ap element_of c.look_up.ensures.value

pub returns-then-is_none-clause-inserted : goal.returns-then-is_none-clause-inserted
returns-then-is_none-clause-inserted c = ap is_some (absent c ∙ sym (inserted_at c.args.entries.now c.look_up.ensures.ordered c.args.id))

pub returns-then-is_none-clause-content : goal.returns-then-is_none-clause-content
returns-then-is_none-clause-content c =
    content_undeleted c.args.entries.now c.remove.new.self c.args.id None c.look_up.ensures.ordered c.remove.ensures.ordered
    (subst (λ es. Updates es c.remove.new.self c.args.id None) c.look_up.ensures.same c.remove.ensures.updates) (absent c) refl

is_inserted : (c : goal.After-set) → true ≡ is_some (element_of (record_of c.args.id c.args.entries.now))
is_inserted c =
    sym (is_some-char c.found_or_new-record.result ∙ ap (λ (r : Record). is_some r.ch) (sym c.record.view_is) ∙ c.if-is_none.ensures)
    ∙ ap is_some (c.found_or_new-record.ensures.element ∙ ap element_of c.look_up.ensures.value)

pub returns-clause-inserted : goal.returns-clause-inserted
returns-clause-inserted c = is_inserted c ∙ sym (ap is_some (inserted_at c.args.entries.now c.look_up.ensures.ordered c.args.id))

pub returns-clause-content : goal.returns-clause-content
returns-clause-content c =
    let written : Record = c.unmarked.result in
    content_undeleted c.args.entries.now c.set.new.self c.args.id (Some written) c.look_up.ensures.ordered c.set.ensures.ordered
    (subst (λ es. Updates es c.set.new.self c.args.id (Some written)) c.look_up.ensures.same
    (c.set.ensures.updates (ap (λ es. is_some (record_of c.args.id es)) c.look_up.ensures.same ∙ some_inserted (record_of c.args.id c.args.entries.now) (sym (is_inserted c)))))
    (ap element_of_record c.unmarked.ensures ∙ c.found_or_new-record.ensures.element ∙ ap element_of c.look_up.ensures.value)
    (ap (λ (r : Record). r.deleted) c.unmarked.ensures)
