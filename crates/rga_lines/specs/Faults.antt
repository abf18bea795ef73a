-- What is asked of a line, in the order in which it is tested, and the fault of a line that does not meet it.
use Rattle.std.specs.Prelude.{ℕ, ◌+◌, Bool, true, false, ◌&&◌, ◌==◌, nat_le, nat_lt, if◌then◌else◌, List, [], ◌∷◌, ◌++◌, length, codes, Option, Some, None, is_some, option_map, option_and_then, unwrap_or}
use Rattle.std.specs.List.{list_all}
use Rattle.std.specs.Str.{is_utf8, chars, bytes_eq}
use Rattle.serde_json.specs.Data.{Data}
use Rattle.serde_json.specs.Read.{read}
use Rattle.serde_json.specs.Find.{get, as_str, as_array, as_object}
use Rattle.rga_ops.specs.declared.id.TheConstants.Id.{MAX_COUNTER}
use Rattle.rga_lines.specs.Runs.{longest_run}
use Rattle.rga_lines.specs.Table.{count_of, number_of, two_numbers, element_of, parent_of, longest_line}
use Rattle.rga_lines.specs.declared.fault.LineFault.{LineFault}
use Rattle.rga_lines.specs.declared.fault.LineFault.TheVariants as fault

pub record Demand : Type 0 where
  pub is_met : Bool
  pub fault : LineFault

abbrev pub demand : Bool → LineFault → Demand
demand is_met fault = record { is_met = is_met; fault = fault }

-- the fault of the first demand that is not met
abbrev pub first_fault : List Demand → Option LineFault
first_fault [] = None
first_fault (d ∷ ds) = if d.is_met then first_fault ds else Some d.fault

-- ---- the kinds of lines, and their members

pub data LineKind : Type 0 where
  insertion_line : LineKind
  deletion_line : LineKind
  run_line : LineKind
  deletions_line : LineKind
  head_line : LineKind
  end_line : LineKind

-- by the word of `op`
abbrev pub kinds : List (List ℕ × LineKind)
kinds =
    (codes "ins", insertion_line) ∷
    (codes "del", deletion_line) ∷
    (codes "run", run_line) ∷
    (codes "dels", deletions_line) ∷
    (codes "head", head_line) ∷
    (codes "end", end_line) ∷ []

abbrev pub kind_among : List (List ℕ × LineKind) → List ℕ → Option LineKind
kind_among [] name = None
kind_among (k ∷ ks) name = if bytes_eq name k.0 then Some k.1 else kind_among ks name

abbrev pub kind_of : Option Data → Option LineKind
kind_of op = option_and_then (kind_among kinds) (option_and_then as_str op)

-- what a member is: a text of one character, or of a run's; an identifier, of an element or else of one or the root; a
-- number of deletions, or any; the number of the version
pub data MemberType : Type 0 where
  one_character : MemberType
  run_text : MemberType
  element : MemberType
  element_or_root : MemberType
  deletion_count : MemberType
  operation_count : MemberType
  version : MemberType

pub record Member : Type 0 where
  pub name : List ℕ
  pub type : MemberType

abbrev pub member : List ℕ → MemberType → Member
member name type = record { name = name; type = type }

-- the members beside `op`
abbrev pub members_of : LineKind → List Member
members_of insertion_line = member (codes "char") one_character ∷ member (codes "id") element ∷ member (codes "parent") element_or_root ∷ []
members_of deletion_line = member (codes "id") element ∷ []
members_of run_line = member (codes "id") element ∷ member (codes "parent") element_or_root ∷ member (codes "text") run_text ∷ []
members_of deletions_line = member (codes "count") deletion_count ∷ member (codes "id") element ∷ []
members_of head_line = member (codes "version") version ∷ []
members_of end_line = member (codes "count") operation_count ∷ []

-- a test of each member
abbrev pub each_member : (MemberType → Option Data → Bool) → LineKind → Data → Bool
each_member test kind d = list_all (λ m. test m.type (get m.name d)) (members_of kind)

-- ---- of one member

abbrev pub number_in : Option Data → Option ℕ
number_in d = option_and_then number_of d

abbrev pub is_there : MemberType → Option Data → Bool
is_there type d = is_some d

-- it is a text, an array, or a whole number below 2 ^ 64, and the version is 2
abbrev pub has_type : MemberType → Option Data → Bool
has_type one_character d = is_some (option_and_then as_str d)
has_type run_text d = is_some (option_and_then as_str d)
has_type element d = is_some (option_and_then as_array d)
has_type element_or_root d = is_some (option_and_then as_array d)
has_type deletion_count d = is_some (number_in d)
has_type operation_count d = is_some (number_in d)
has_type version d = unwrap_or (number_in d) 0 == 2

-- it is exactly two numbers in the ranges
abbrev pub is_identifier : MemberType → Option Data → Bool
is_identifier element d = is_some (option_and_then element_of (option_and_then as_array d))
is_identifier element_or_root d = is_some (option_and_then parent_of (option_and_then as_array d))
is_identifier _ d = true

-- the characters of a text
abbrev pub length_in : Option Data → ℕ
length_in d = unwrap_or (option_map (λ text. length (chars text)) (option_and_then as_str d)) 0

abbrev pub is_run_length : ℕ → Bool
is_run_length n = nat_le 1 n && nat_le n longest_run

-- it has one character, or as many operations as a run may have
abbrev pub has_length : MemberType → Option Data → Bool
has_length one_character d = length_in d == 1
has_length run_text d = is_run_length (length_in d)
has_length deletion_count d = is_run_length (unwrap_or (number_in d) 0)
has_length _ d = true

-- the counter of an identifier
abbrev pub counter_in : Option Data → ℕ
counter_in d = unwrap_or (option_map (λ p. p.0) (option_and_then two_numbers (option_and_then as_array d))) 0

-- ---- of all members

-- there are `op` and the members of the kind, and no further ones
abbrev pub has_members : LineKind → Data → Bool
has_members kind d = (unwrap_or (count_of d) 0 == length (members_of kind) + 1) && each_member is_there kind d

-- the last counter of a run is in range
abbrev pub ends_in_range : LineKind → Data → Bool
ends_in_range run_line d = nat_le (counter_in (get (codes "id") d) + length_in (get (codes "text") d)) (MAX_COUNTER + 1)
ends_in_range deletions_line d = nat_le (counter_in (get (codes "id") d) + unwrap_or (number_in (get (codes "count") d)) 0) (MAX_COUNTER + 1)
ends_in_range _ d = true

-- an insertion's counter, or a run's first, is above the parent's
abbrev pub is_above_parent : LineKind → Data → Bool
is_above_parent insertion_line d = nat_lt (counter_in (get (codes "parent") d)) (counter_in (get (codes "id") d))
is_above_parent run_line d = nat_lt (counter_in (get (codes "parent") d)) (counter_in (get (codes "id") d))
is_above_parent _ d = true

-- ---- the table

-- `op` is a text that names a kind; the members are those of the kind, and each has its type; the identifiers are in
-- range, the texts and runs are as long as they may be, and the counter is above the parent's
abbrev pub kind_demands : Data → Option LineKind → List Demand
kind_demands d None = demand false fault.Kind ∷ []
kind_demands d (Some kind) =
    demand (has_members kind d) fault.Member ∷
    demand (each_member has_type kind d) fault.Kind ∷
    demand (each_member is_identifier kind d && ends_in_range kind d) fault.Id ∷
    demand (each_member has_length kind d) fault.Char ∷
    demand (is_above_parent kind d) fault.Order ∷ []

-- of a value: it is an object, and has `op`
abbrev pub value_demands : Data → List Demand
value_demands d =
    demand (is_some (as_object d)) fault.Kind ∷
    demand (is_some (get (codes "op") d)) fault.Member ∷
    kind_demands d (kind_of (get (codes "op") d))

abbrev pub read_demands : Option Data → List Demand
read_demands (Some d) = value_demands d
read_demands None = []

-- of the bytes of a line, its newline left out: they are not too many, and a value of JSON in UTF-8
abbrev pub line_demands : List ℕ → List Demand
line_demands bytes =
    demand (nat_le (length bytes) longest_line) fault.Long ∷
    demand (is_utf8 bytes && is_some (read bytes)) fault.Json ∷
    read_demands (read bytes)

-- a line of one operation
abbrev pub is_single : Option LineKind → Bool
is_single (Some insertion_line) = true
is_single (Some deletion_line) = true
is_single _ = false

abbrev pub is_operation : Option Data → Bool
is_operation (Some d) = is_single (kind_of (get (codes "op") d))
is_operation None = false

-- of the bytes of a line where one operation alone may stand
abbrev pub operation_demands : List ℕ → List Demand
operation_demands bytes = line_demands bytes ++ demand (is_operation (read bytes)) fault.Kind ∷ []
