use Rattle.std.proofs.Common.{◌≡◌, ℕ, refl}
use Rattle.std.specs.Prelude.{Option, Some, None}
use Rattle.rga_pages.specs.declared.entry.Record.{Record}
use Rattle.rga_pages.specs.Pages.{record_of, noted}
use Rattle.rga_records.proofs.RecordLaws.{element_of, mark_of, content_kept}
use Rattle.rga_records.proofs.entries.set_near.Goals as goal

same_element : (block index : ℕ) (o : Option Record) → element_of (noted block index o) ≡ element_of o
same_element block index None = refl
same_element block index (Some r) = refl

same_mark : (block index : ℕ) (o : Option Record) → mark_of (noted block index o) ≡ mark_of o
same_mark block index None = refl
same_mark block index (Some r) = refl

pub returns-clause-content : goal.returns-clause-content
returns-clause-content c =
    content_kept c.args.entries.now c.note.new.self c.args.id (noted c.short_name.result c.short_index.result (record_of c.args.id c.args.entries.now))
    c.note.ensures.was_ordered c.note.ensures.ordered c.note.ensures.updates
    (same_element c.short_name.result c.short_index.result (record_of c.args.id c.args.entries.now))
    (same_mark c.short_name.result c.short_index.result (record_of c.args.id c.args.entries.now))
