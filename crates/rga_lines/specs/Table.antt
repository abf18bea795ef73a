-- What a line says, or its fault: the first one of this table that holds.
use Rattle.std.specs.Prelude.{◌≡◌, ℕ, ◌+◌, Bool, true, false, ◌&&◌, ◌||◌, ◌==◌, nat_le, nat_lt, if◌then◌else◌, List, [], ◌∷◌, length, codes, Option, Some, None, is_some, option_map, option_and_then, Result, Ok, Err, ok_or}
use Rattle.std.specs.Str.{is_utf8, chars, bytes_eq}
use Rattle.serde_json.specs.Data.{Data, Items, no_items, item}
use Rattle.serde_json.specs.Events.{members_len}
use Rattle.serde_json.specs.Read.{read}
use Rattle.serde_json.specs.Find.{get, as_str, as_array, as_object, as_number, as_u64}
use Rattle.rga_ops.specs.Identifier.{Identifier, identifier, is_root, is_in_range}
use Rattle.rga_ops.specs.declared.id.TheConstants.Id.{MAX_COUNTER}
use Rattle.rga_ops.specs.declared.op.Op.{Op}
use Rattle.rga_ops.specs.declared.op.Op.TheVariants.{Insert, Delete}
use Rattle.rga_lines.specs.declared.line.Line.{Line}
use Rattle.rga_lines.specs.declared.line.Line.TheVariants.{One, Run, Deletions, Head, Last}
use Rattle.rga_lines.specs.declared.deletion_run.DeletionRun.{DeletionRun}
use Rattle.rga_lines.specs.Runs.{longest_run, stretch, deletion_run}
use Rattle.rga_lines.specs.declared.fault.LineFault.{LineFault}
use Rattle.rga_lines.specs.declared.fault.LineFault.TheVariants as fault

-- an operation, or what is wrong
abbrev pub Reading : Type 0
Reading = Result Op LineFault

-- an operation, a run, the head or the end of an exchange, or what is wrong
abbrev pub AnyReading : Type 0
AnyReading = Result Line LineFault

-- ---- members

abbrev pub has_member : List ℕ → Data → Bool
has_member name d = is_some (get name d)

-- how many members the object has
abbrev pub count_of : Data → Option ℕ
count_of d = option_map members_len (as_object d)

abbrev pub text_at : List ℕ → Data → Option (List ℕ)
text_at name d = option_and_then as_str (get name d)

abbrev pub array_at : List ℕ → Data → Option Items
array_at name d = option_and_then as_array (get name d)

-- a whole number below 2 ^ 64
abbrev pub number_of : Data → Option ℕ
number_of d = option_and_then as_u64 (as_number d)

abbrev pub number_at : List ℕ → Data → Option ℕ
number_at name d = option_and_then number_of (get name d)

-- ---- identifiers

abbrev pub pair : Option ℕ → Option ℕ → Option (ℕ × ℕ)
pair (Some counter) (Some replica) = Some (counter, replica)
pair _ _ = None

-- exactly two numbers
abbrev pub two_numbers : Items → Option (ℕ × ℕ)
two_numbers no_items = None
two_numbers (item counter no_items) = None
two_numbers (item counter (item replica no_items)) = pair (number_of counter) (number_of replica)
two_numbers (item counter (item replica (item d ds))) = None

abbrev pub IsElement : Identifier → Type 0
IsElement id = is_in_range id.counter id.replica ≡ true

abbrev pub IsElementOrRoot : Identifier → Type 0
IsElementOrRoot id = is_root id || is_in_range id.counter id.replica ≡ true

abbrev pub if_in_range : ℕ × ℕ → Option Identifier
if_in_range p = if is_in_range p.0 p.1 then Some (identifier p.0 p.1) else None

abbrev pub if_root_or_in_range : ℕ × ℕ → Option Identifier
if_root_or_in_range p =
    if is_root (identifier p.0 p.1) || is_in_range p.0 p.1 then Some (identifier p.0 p.1) else None

-- the identifier of an element
abbrev pub element_of : Items → Option Identifier
element_of ds = option_and_then if_in_range (two_numbers ds)

-- the identifier of an element, or the root
abbrev pub parent_of : Items → Option Identifier
parent_of ds = option_and_then if_root_or_in_range (two_numbers ds)

-- ---- an insertion

abbrev pub with_order : Identifier → Identifier → ℕ → Reading
with_order id parent ch =
    if nat_le id.counter parent.counter then Err fault.Order else Ok (Insert id parent ch)

abbrev pub only_char : List ℕ → Option ℕ
only_char [] = None
only_char (c ∷ []) = Some c
only_char (c ∷ d ∷ cs) = None

abbrev pub with_char : Identifier → Identifier → Option ℕ → Reading
with_char id parent (Some ch) = with_order id parent ch
with_char id parent None = Err fault.Char

abbrev pub with_identifiers : Option Identifier → Option Identifier → List ℕ → Reading
with_identifiers (Some id) (Some parent) text = with_char id parent (only_char (chars text))
with_identifiers _ _ text = Err fault.Id

abbrev pub with_types : Option (List ℕ) → Option Items → Option Items → Reading
with_types (Some text) (Some id) (Some parent) =
    with_identifiers (element_of id) (parent_of parent) text
with_types _ _ _ = Err fault.Kind

-- The members are these four: there are four, and each of the other three is there.
abbrev pub insertion : ℕ → Data → Reading
insertion count d =
    if (count == 4) && (has_member (codes "char") d && (has_member (codes "id") d && has_member (codes "parent") d)) then
    with_types (text_at (codes "char") d) (array_at (codes "id") d) (array_at (codes "parent") d)
    else Err fault.Member

-- ---- a deletion

abbrev pub with_identifier : Option Identifier → Reading
with_identifier (Some id) = Ok (Delete id)
with_identifier None = Err fault.Id

abbrev pub with_type : Option Items → Reading
with_type (Some id) = with_identifier (element_of id)
with_type None = Err fault.Kind

abbrev pub deletion : ℕ → Data → Reading
deletion count d =
    if (count == 2) && has_member (codes "id") d then with_type (array_at (codes "id") d)
    else Err fault.Member

-- ---- a run

abbrev pub with_run_order : Identifier → Identifier → List ℕ → AnyReading
with_run_order id parent chars =
    if nat_le id.counter parent.counter then Err fault.Order else Ok (Run (stretch id parent chars))

abbrev pub with_run_chars : Identifier → Identifier → List ℕ → AnyReading
with_run_chars id parent chars =
    if (length chars == 0) || nat_lt longest_run (length chars) then Err fault.Char
    else with_run_order id parent chars

-- the last character's counter is within the range, too
abbrev pub with_run_end : Identifier → Identifier → List ℕ → AnyReading
with_run_end id parent chars =
    if nat_lt (MAX_COUNTER + 1) (id.counter + length chars) then Err fault.Id
    else with_run_chars id parent chars

abbrev pub with_run_identifiers : Option Identifier → Option Identifier → List ℕ → AnyReading
with_run_identifiers (Some id) (Some parent) text = with_run_end id parent (chars text)
with_run_identifiers _ _ text = Err fault.Id

abbrev pub with_run_types : Option (List ℕ) → Option Items → Option Items → AnyReading
with_run_types (Some text) (Some id) (Some parent) =
    with_run_identifiers (element_of id) (parent_of parent) text
with_run_types _ _ _ = Err fault.Kind

-- The members are these four: there are four, and each of the other three is there.
abbrev pub run : ℕ → Data → AnyReading
run count d =
    if (count == 4) && (has_member (codes "id") d && (has_member (codes "parent") d && has_member (codes "text") d)) then
    with_run_types (text_at (codes "text") d) (array_at (codes "id") d) (array_at (codes "parent") d)
    else Err fault.Member

-- ---- a run of deletions

abbrev pub with_deletion_count : Identifier → ℕ → Result DeletionRun LineFault
with_deletion_count id count =
    if (count == 0) || nat_lt longest_run count then Err fault.Char else Ok (deletion_run id count)

-- the last element's counter is within the range, too
abbrev pub with_deletion_end : Identifier → ℕ → Result DeletionRun LineFault
with_deletion_end id count =
    if nat_lt (MAX_COUNTER + 1) (id.counter + count) then Err fault.Id else with_deletion_count id count

abbrev pub with_deletion_identifier : Option Identifier → ℕ → Result DeletionRun LineFault
with_deletion_identifier (Some id) count = with_deletion_end id count
with_deletion_identifier None count = Err fault.Id

abbrev pub with_deletion_types : Option ℕ → Option Items → Result DeletionRun LineFault
with_deletion_types (Some count) (Some id) = with_deletion_identifier (element_of id) count
with_deletion_types _ _ = Err fault.Kind

-- The members are these three: there are three, and each of the other two is there.
abbrev pub deletions_reading : ℕ → Data → Result DeletionRun LineFault
deletions_reading members d =
    if (members == 3) && (has_member (codes "count") d && has_member (codes "id") d) then
    with_deletion_types (number_at (codes "count") d) (array_at (codes "id") d)
    else Err fault.Member

-- ---- the head of an exchange

abbrev pub with_version : Option ℕ → AnyReading
with_version (Some version) = if version == 2 then Ok Head else Err fault.Kind
with_version None = Err fault.Kind

abbrev pub heading : ℕ → Data → AnyReading
heading count d =
    if (count == 2) && has_member (codes "version") d then with_version (number_at (codes "version") d)
    else Err fault.Member

-- ---- the end of an exchange

-- how many operations the exchange had
abbrev pub ending : ℕ → Data → Result ℕ LineFault
ending count d =
    if (count == 2) && has_member (codes "count") d then ok_or (number_at (codes "count") d) fault.Kind
    else Err fault.Member

-- ---- the whole

abbrev pub single_reading : Reading → AnyReading
single_reading (Ok op) = Ok (One op)
single_reading (Err e) = Err e

abbrev pub run_of_deletions : Result DeletionRun LineFault → AnyReading
run_of_deletions (Ok r) = Ok (Deletions r)
run_of_deletions (Err e) = Err e

abbrev pub last : Result ℕ LineFault → AnyReading
last (Ok operations) = Ok (Last operations)
last (Err e) = Err e

abbrev pub of_kind : ℕ → Data → List ℕ → AnyReading
of_kind count d name =
    if bytes_eq name (codes "ins") then single_reading (insertion count d)
    else (if bytes_eq name (codes "del") then single_reading (deletion count d)
    else (if bytes_eq name (codes "run") then run count d
    else (if bytes_eq name (codes "dels") then run_of_deletions (deletions_reading count d)
    else (if bytes_eq name (codes "head") then heading count d
    else (if bytes_eq name (codes "end") then last (ending count d)
    else Err fault.Kind)))))

abbrev pub with_name : ℕ → Data → Option (List ℕ) → AnyReading
with_name count d (Some name) = of_kind count d name
with_name count d None = Err fault.Kind

abbrev pub with_op : ℕ → Data → Option Data → AnyReading
with_op count d (Some op) = with_name count d (as_str op)
with_op count d None = Err fault.Member

abbrev pub with_count : Data → Option ℕ → AnyReading
with_count d (Some count) = with_op count d (get (codes "op") d)
with_count d None = Err fault.Kind

-- what a value says
unfoldable pub value_line : Data → AnyReading
value_line d = with_count d (count_of d)

-- what a text says: is it UTF-8, and which value is it
abbrev pub text_line : Bool → Option Data → AnyReading
text_line true (Some d) = value_line d
text_line true None = Err fault.Json
text_line false d = Err fault.Json

-- the most bytes of a line
abbrev pub longest_line : ℕ
longest_line = 65536

-- what the bytes of a line say, its newline left out
unfoldable pub any_line_at : List ℕ → AnyReading
any_line_at bytes =
    if nat_lt longest_line (length bytes) then Err fault.Long
    else text_line (is_utf8 bytes) (read bytes)

-- where one operation alone may stand, a run of either kind, the head and the end of an exchange are lines of another kind
abbrev pub operation_alone : AnyReading → Reading
operation_alone (Ok (One op)) = Ok op
operation_alone (Ok (Run r)) = Err fault.Kind
operation_alone (Ok (Deletions r)) = Err fault.Kind
operation_alone (Ok Head) = Err fault.Kind
operation_alone (Ok (Last operations)) = Err fault.Kind
operation_alone (Err e) = Err e

-- the operation that the bytes of a line say
unfoldable pub line_at : List ℕ → Reading
line_at bytes = operation_alone (any_line_at bytes)
