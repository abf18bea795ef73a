-- What is asked of a report that is no operation, in the order in which it is tested, and the fault of one that does not
-- meet it.
use Rattle.std.specs.Prelude.{ℕ, ◌+◌, Bool, true, false, ◌&&◌, ◌==◌, if◌then◌else◌, List, [], ◌∷◌, length, codes, Option, Some, None, is_some, option_and_then}
use Rattle.std.specs.List.{list_all}
use Rattle.std.specs.Str.{bytes_eq}
use Rattle.serde_json.specs.Data.{Data, Items}
use Rattle.serde_json.specs.Find.{get, as_str, as_array}
use Rattle.rga_lines.specs.Table.{number_of, text_at}
use Rattle.rga_lines.specs.Faults.{Demand, demand}
use Rattle.rga_lines.specs.declared.fault.LineFault.TheVariants as fault
use Rattle.mg_events.specs.Reports.{member_count, more_count, more_of, are_arrays, places_of}

pub data ReportKind : Type 0 where
  paste_report : ReportKind
  splice_report : ReportKind
  size_report : ReportKind
  places_report : ReportKind
  rest_report : ReportKind

-- by the word of `op`
abbrev pub kinds : List (List ℕ × ReportKind)
kinds =
    (codes "paste", paste_report) ∷
    (codes "splice", splice_report) ∷
    (codes "size", size_report) ∷
    (codes "places", places_report) ∷
    (codes "rest", rest_report) ∷ []

abbrev pub kind_among : List (List ℕ × ReportKind) → List ℕ → Option ReportKind
kind_among [] name = None
kind_among (k ∷ ks) name = if bytes_eq name k.0 then Some k.1 else kind_among ks name

abbrev pub kind_of : Data → Option ReportKind
kind_of d = option_and_then (kind_among kinds) (text_at (codes "op") d)

-- what a member is: a text, a whole number below 2 ^ 64, or places
pub data MemberType : Type 0 where
  text_member : MemberType
  number_member : MemberType
  places_member : MemberType

-- the members beside `op` that must be there
abbrev pub members_of : ReportKind → List (List ℕ × MemberType)
members_of paste_report = (codes "text", text_member) ∷ []
members_of splice_report = (codes "base", number_member) ∷ (codes "hi", number_member) ∷ (codes "lo", number_member) ∷ (codes "text", text_member) ∷ []
members_of size_report = (codes "cols", number_member) ∷ (codes "rows", number_member) ∷ []
members_of places_report = (codes "places", places_member) ∷ []
members_of rest_report = []

-- `more` may be there
abbrev pub may_have_more : ReportKind → Bool
may_have_more paste_report = true
may_have_more splice_report = true
may_have_more _ = false

-- ---- of one member

abbrev pub is_there : MemberType → Option Data → Bool
is_there type d = is_some d

abbrev pub are_places : Option Items → Bool
are_places (Some ds) = are_arrays ds
are_places None = false

-- it is a text, a number, or an array of arrays
abbrev pub has_type : MemberType → Option Data → Bool
has_type text_member d = is_some (option_and_then as_str d)
has_type number_member d = is_some (option_and_then number_of d)
has_type places_member d = are_places (option_and_then as_array d)

-- of places, each is exactly two numbers in the ranges
abbrev pub has_identifiers : MemberType → Option Data → Bool
has_identifiers places_member d = is_some (option_and_then places_of (option_and_then as_array d))
has_identifiers _ d = true

-- ---- of all members

-- a test of each member
abbrev pub each_member : (MemberType → Option Data → Bool) → ReportKind → Data → Bool
each_member test kind d = list_all (λ m. test m.1 (get m.0 d)) (members_of kind)

-- how many members `more` takes in it
abbrev pub further_count : ReportKind → Data → ℕ
further_count kind d = if may_have_more kind then more_count (get (codes "more") d) else 0

-- there are `op` and the members of the kind, and no further ones but `more`
abbrev pub has_members : ReportKind → Data → Bool
has_members kind d = (member_count d == length (members_of kind) + 1 + further_count kind d) && each_member is_there kind d

-- `more` is a boolean, if it is there
abbrev pub has_more_type : ReportKind → Data → Bool
has_more_type kind d = if may_have_more kind then is_some (more_of (get (codes "more") d)) else true

-- ---- the table

abbrev pub report_demands : ReportKind → Data → List Demand
report_demands kind d =
    demand (has_members kind d) fault.Member ∷
    demand (each_member has_type kind d && has_more_type kind d) fault.Kind ∷
    demand (each_member has_identifiers kind d) fault.Id ∷ []
