-- What a line of a report says, or its fault: the first one of this table that holds.
use Rattle.std.specs.Prelude.{ℕ, ◌+◌, Bool, true, false, ◌&&◌, ◌==◌, nat_lt, if◌then◌else◌, List, [], ◌∷◌, length, codes, Option, Some, None, is_some, option_map, option_and_then, unwrap_or, Result, Ok, Err, Vec}
use Rattle.std.specs.declared.alloc.Global.{Global}
use Rattle.std.specs.Str.{is_utf8, chars, bytes_eq}
use Rattle.serde_json.specs.Data.{Data, Items, no_items, item}
use Rattle.serde_json.specs.Read.{read}
use Rattle.serde_json.specs.Find.{get, as_bool, as_array}
use Rattle.rga_ops.specs.Identifier.{Identifier}
use Rattle.rga_lines.specs.declared.line.Line.TheVariants as line
use Rattle.rga_lines.specs.declared.fault.LineFault.{LineFault}
use Rattle.rga_lines.specs.declared.fault.LineFault.TheVariants as fault
use Rattle.rga_lines.specs.Runs.{IsRun, IsDeletionRun}
use Rattle.rga_lines.specs.Table.{AnyReading, has_member, count_of, text_at, array_at, number_at, parent_of, value_line}
use Rattle.mg_events.specs.declared.report.Report.{Report}
use Rattle.mg_events.specs.declared.report.Report.TheVariants.{One, Run, Deletions, Paste, Splice, Size, Places, Rest}

-- a report, or what is wrong
abbrev pub ReportReading : Type 0
ReportReading = Result Report LineFault

-- how many members the object has
abbrev pub member_count : Data → ℕ
member_count d = unwrap_or (count_of d) 0

-- ---- operations, which stand as in a log

-- the head and the end of an exchange are no reports
abbrev pub operations_report : AnyReading → ReportReading
operations_report (Ok (line.One op)) = Ok (One op)
operations_report (Ok (line.Run r)) = Ok (Run r)
operations_report (Ok (line.Deletions r)) = Ok (Deletions r)
operations_report (Ok line.Head) = Err fault.Kind
operations_report (Ok (line.Last operations)) = Err fault.Kind
operations_report (Err e) = Err e

-- ---- `more`, which may be left out

-- how many members it takes
abbrev pub more_count : Option Data → ℕ
more_count None = 0
more_count (Some d) = 1

-- left out it is false
abbrev pub more_of : Option Data → Option Bool
more_of None = Some false
more_of (Some d) = as_bool d

-- ---- pasted text

abbrev pub with_paste_types : Option (List ℕ) → Option Bool → ReportReading
with_paste_types (Some text) (Some more) = Ok (Paste (chars text) more)
with_paste_types _ _ = Err fault.Kind

-- The members are `op` and `text`, and `more` if it is there.
abbrev pub paste : ℕ → Data → ReportReading
paste count d =
    if (count == 2 + more_count (get (codes "more") d)) && has_member (codes "text") d then
    with_paste_types (text_at (codes "text") d) (more_of (get (codes "more") d))
    else Err fault.Member

-- ---- characters in place of others

abbrev pub with_splice_types : Option ℕ → Option ℕ → Option ℕ → Option (List ℕ) → Option Bool → ReportReading
with_splice_types (Some base) (Some hi) (Some lo) (Some text) (Some more) = Ok (Splice base lo hi (chars text) more)
with_splice_types _ _ _ _ _ = Err fault.Kind

-- The members are `op` and these four, and `more` if it is there.
abbrev pub splice : ℕ → Data → ReportReading
splice count d =
    if (count == 5 + more_count (get (codes "more") d))
    && (has_member (codes "base") d && (has_member (codes "hi") d && (has_member (codes "lo") d && has_member (codes "text") d))) then
    with_splice_types (number_at (codes "base") d) (number_at (codes "hi") d) (number_at (codes "lo") d) (text_at (codes "text") d) (more_of (get (codes "more") d))
    else Err fault.Member

-- ---- the size of the screen

abbrev pub with_size_types : Option ℕ → Option ℕ → ReportReading
with_size_types (Some columns) (Some rows) = Ok (Size rows columns)
with_size_types _ _ = Err fault.Kind

abbrev pub size : ℕ → Data → ReportReading
size count d =
    if (count == 3) && (has_member (codes "cols") d && has_member (codes "rows") d) then
    with_size_types (number_at (codes "cols") d) (number_at (codes "rows") d)
    else Err fault.Member

-- ---- places of others

abbrev pub are_arrays : Items → Bool
are_arrays no_items = true
are_arrays (item d ds) = is_some (as_array d) && are_arrays ds

-- an identifier in front of others
abbrev pub with_place : Option Identifier → Option (List Identifier) → Option (List Identifier)
with_place (Some id) (Some ids) = Some (id ∷ ids)
with_place _ _ = None

-- the identifiers, each of an element or the root, which is the front
abbrev pub places_of : Items → Option (List Identifier)
places_of no_items = Some []
places_of (item d ds) = with_place (option_and_then parent_of (as_array d)) (places_of ds)

-- as the code has them
abbrev pub ids_in : Option (Vec Identifier Global) → Option (List Identifier)
ids_in o = option_map (λ v. v.items) o

abbrev pub with_places : Option (List Identifier) → ReportReading
with_places (Some ids) = Ok (Places ids)
with_places None = Err fault.Id

abbrev pub with_places_type : Option Items → ReportReading
with_places_type (Some ds) = if are_arrays ds then with_places (places_of ds) else Err fault.Kind
with_places_type None = Err fault.Kind

abbrev pub places : ℕ → Data → ReportReading
places count d =
    if (count == 2) && has_member (codes "places") d then with_places_type (array_at (codes "places") d)
    else Err fault.Member

-- ---- nobody types

abbrev pub rest : ℕ → ReportReading
rest count = if count == 1 then Ok Rest else Err fault.Member

-- ---- the whole

-- with what the value says as a line of operations
abbrev pub of_kind : AnyReading → Data → List ℕ → ReportReading
of_kind said d name =
    if bytes_eq name (codes "paste") then paste (member_count d) d
    else (if bytes_eq name (codes "splice") then splice (member_count d) d
    else (if bytes_eq name (codes "size") then size (member_count d) d
    else (if bytes_eq name (codes "places") then places (member_count d) d
    else (if bytes_eq name (codes "rest") then rest (member_count d)
    else operations_report said))))

abbrev pub with_name : AnyReading → Data → Option (List ℕ) → ReportReading
with_name said d (Some name) = of_kind said d name
with_name said d None = operations_report said

-- what a value says
unfoldable pub value_report : Data → ReportReading
value_report d = with_name (value_line d) d (text_at (codes "op") d)

-- what a text says: is it UTF-8, and which value is it
abbrev pub text_report : Bool → Option Data → ReportReading
text_report true (Some d) = value_report d
text_report true None = Err fault.Json
text_report false d = Err fault.Json

-- what the bytes of a report's line say, its newline left out
unfoldable pub report_at : List ℕ → ReportReading
report_at bytes = if nat_lt 65536 (length bytes) then Err fault.Long else text_report (is_utf8 bytes) (read bytes)

-- a run that a report says is one: of 1 to 4096 operations, with counters in range
abbrev pub HasSoundRun : Report → Type 0
HasSoundRun (Run r) = IsRun r
HasSoundRun (Deletions r) = IsDeletionRun r
HasSoundRun said = Unit {0}
