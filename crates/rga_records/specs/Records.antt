-- What is known of each identifier, and what that stands for.
use Rattle.std.specs.Prelude.{◌||◌, ℕ, Bool, List, [], ◌∷◌, filter, is_some, not, Option, Some, None, if◌then◌else◌}
use Rattle.std.specs.List.{filter_map}
use Rattle.std.specs.Map.{keys_of}
use Rattle.std.specs.Option.{option_map}
use Rattle.std.specs.FinMap as finite_map
use Rattle.std.specs.FinSet as finite_set
use Rattle.rga_ops.specs.Identifier.{Identifier}
use Rattle.rga_ops.specs.Content.{Element, element, Content, known_ids}
use Rattle.rga_ops.specs.ListAnswer.{has_another}
use Rattle.rga_ops.specs.Operations.{insertion_of}
use Rattle.rga_store.specs.Counted.{IsCounted}
use Rattle.rga_pages.specs.declared.entry.Record.{Record}
pub use Rattle.rga_pages.specs.Pages.{Entries, AreOrdered}

-- the element of a record, if it has one
abbrev pub element_of_record : Record → Option Element
element_of_record v = option_map (λ ch. element v.parent ch) v.ch

abbrev pub insertion_of_record : Identifier × Record → Option (Identifier × Element)
insertion_of_record e = option_map (λ x. (e.0, x)) (element_of_record e.1)

-- the identifiers of the records that pass the test
abbrev pub ids_of_records_where : (Record → Bool) → Entries → List Identifier
ids_of_records_where test es = keys_of (filter (λ e. test e.1) es)

abbrev pub marked_record_ids : Entries → List Identifier
marked_record_ids = ids_of_records_where (λ v. v.deleted)

-- a record that has an element, a mark or both
abbrev pub is_meaningful : Record → Bool
is_meaningful v = is_some v.ch || v.deleted

-- what the records stand for; the blocks are no part of it
abbrev pub content_of_records : Entries → Content
content_of_records es = record {
  inserted = finite_map.from_entries (filter_map insertion_of_record es);
  deleted = finite_set.from_list (marked_record_ids es);
}

-- the identifier of the first insertion that conflicts with the content
abbrev pub first_conflicting : Content → List (Identifier × Element) → Option Identifier
first_conflicting c [] = None
first_conflicting c (x ∷ xs) = if has_another c (insertion_of x) then Some x.0 else first_conflicting c xs

-- what the records know and the content does not
abbrev pub unknown_ids : Content → Entries → List Identifier
unknown_ids c es = filter (λ q. not (finite_set.contains (known_ids c) q)) (ids_of_records_where is_meaningful es)

-- the identifiers rise, and the content is counted
pub record AreRecords (es : Entries) (latest insertions identifiers limit : ℕ) : Type 0 where
  pub ordered : AreOrdered es
  pub counted : IsCounted (content_of_records es) latest insertions identifiers limit
