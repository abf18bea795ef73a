use Rattle.std.proofs.Common.{◌≡◌, true, false, is_some, refl, ap, ◌∙◌}
use Rattle.std.specs.Prelude.{Some, None, Option}
use Rattle.rga_pages.specs.declared.entry.Record.{Record}
use Rattle.rga_pages.specs.Pages.{record_of, marked, IsUnmarked}
use Rattle.rga_records.specs.Records.{Entries}
use Rattle.rga_records.proofs.RecordLaws.{element_of, mark_of, is_some-char, inserted_at, deleted_at, content_deleted, marked_element}
use Rattle.rga_records.proofs.entries.mark_inserted.Goals as goal

has_element : (o : Option Record) → IsUnmarked o → is_some (element_of o) ≡ true
has_element None h = absurd h
has_element (Some r) h = is_some-char r ∙ h.0

has_no_mark : (o : Option Record) → IsUnmarked o → mark_of o ≡ false
has_no_mark None h = absurd h
has_no_mark (Some r) h = h.1

is_marked_then : (o : Option Record) → IsUnmarked o → mark_of (marked o) ≡ true
is_marked_then None h = absurd h
is_marked_then (Some r) h = refl

pub returns-clause-inserted : goal.returns-clause-inserted
returns-clause-inserted c = λ t.
    ap is_some (inserted_at c.args.entries.now c.mark_inserted.ensures.was_ordered c.args.id)
    ∙ has_element (record_of c.args.id c.args.entries.now) (c.mark_inserted.ensures.found t)

pub returns-clause-unmarked : goal.returns-clause-unmarked
returns-clause-unmarked c = λ t.
    deleted_at c.args.entries.now c.mark_inserted.ensures.was_ordered c.args.id
    ∙ has_no_mark (record_of c.args.id c.args.entries.now) (c.mark_inserted.ensures.found t)

pub returns-clause-content : goal.returns-clause-content
returns-clause-content c = λ t.
    let es : Entries = c.args.entries.now in
    content_deleted es c.mark_inserted.new.self c.args.id (marked (record_of c.args.id es)) c.mark_inserted.ensures.was_ordered c.mark_inserted.ensures.ordered (c.mark_inserted.ensures.updates t)
    (marked_element (record_of c.args.id es)) (is_marked_then (record_of c.args.id es) (c.mark_inserted.ensures.found t))
