-- The fault of a line is that of the first demand that it does not meet.
use Rattle.rga_lines.proofs.Prelude.{◌≡◌, ℕ, suc, ◌+◌, Bool, true, false, List, [], ◌∷◌, ◌++◌, length, Option, Some, None, nat_lt, nat_le, if◌then◌else◌, ◌&&◌, ◌||◌, refl, sym, ap, ◌∙◌, arith, codes, ◌==◌, not, Result, Ok, Err, IfSome, ok_or}
use Rattle.rga_lines.proofs.Prelude.{is_some, option_map, option_and_then, unwrap_or, chars, bytes_eq, Data, object, members_len, read, get_member, as_str, as_array, Identifier, identifier, is_root, is_in_range, MAX_COUNTER}
use Rattle.rga_lines.proofs.Prelude.{DeletionRun, LineFault, Head, Reading, AnyReading, two_numbers, element_of, parent_of, if_in_range, if_root_or_in_range, longest_line, Demand, demand}
use Rattle.rga_lines.proofs.Prelude.{first_fault, kinds, kind_among, kind_of, one_character, run_text, element, element_or_root, deletion_count, operation_count, version, number_in, has_type, is_identifier, length_in, is_run_length, has_length}
use Rattle.rga_lines.proofs.Prelude.{counter_in, kind_demands, value_demands, read_demands, line_demands, is_operation, operation_demands}
use Rattle.std.proofs.lemmas.Bool.Decides.{nat_tests}
use Rattle.std.specs.Option.{option_or}
use Rattle.std.specs.Result.{result_err}
use Rattle.serde_json.specs.Data.{Items, Members}
use Rattle.rga_lines.specs.Table.{number_of}
use Rattle.rga_lines.proofs.SoundLemmas.{kind_by, reading_by, IsSound, sound_line}
use Rattle.rga_lines.specs.declared.fault.LineFault.TheVariants as fault
use Rattle.rga_lines.specs.Table as table

-- ---- tests

at_most : (a b : ℕ) → nat_le a b ≡ not (nat_lt b a)
at_most a b = grind (arith, nat_tests)

above : (a b : ℕ) → nat_lt a b ≡ not (nat_le b a)
above a b = grind (arith, nat_tests)

-- a test for a fault in front of the others
unless : {T : Type 0} (x y : Bool) (f : LineFault) (r : Result T LineFault) (rest : List Demand)
    → y ≡ not x → result_err r ≡ first_fault rest → result_err (if x then Err f else r) ≡ first_fault (demand y f ∷ rest)
unless true y f r rest e h = rw e refl
unless false y f r rest e h = rw e h

abbrev both : Bool → Bool → Bool
both a b = a && (b && true)

abbrev all_three : Bool → Bool → Bool → Bool
all_three a b c = a && (b && (c && true))

abbrev text_length : Option (List ℕ) → ℕ
text_length t = unwrap_or (option_map (λ text. length (chars text)) t) 0

abbrev first : Option (ℕ × ℕ) → ℕ
first o = unwrap_or (option_map (λ p. p.0) o) 0

abbrev first_number : Option Items → ℕ
first_number i = first (option_and_then two_numbers i)

-- the counter of an identifier is the first of its numbers
counter_is : (within : Bool) (p : ℕ × ℕ) → IfSome (if within then Some (identifier p.0 p.1) else None) (λ id. p.0 ≡ id.counter)
counter_is true p = refl
counter_is false p = tt

element_counter : (o : Option (ℕ × ℕ)) → IfSome (option_and_then if_in_range o) (λ id. first o ≡ id.counter)
element_counter None = tt
element_counter (Some p) = counter_is (is_in_range p.0 p.1) p

parent_counter : (o : Option (ℕ × ℕ)) → IfSome (option_and_then if_root_or_in_range o) (λ id. first o ≡ id.counter)
parent_counter None = tt
parent_counter (Some p) = counter_is (is_root (identifier p.0 p.1) || is_in_range p.0 p.1) p

-- ---- an insertion

order : (id parent : Identifier) (ch : ℕ) → result_err (table.with_order id parent ch) ≡ first_fault (demand (nat_lt parent.counter id.counter) fault.Order ∷ [])
order id parent ch = grind arith

insertion_types : (t : Option (List ℕ)) (i p : Option Items) → result_err (table.with_types t i p)
    ≡ first_fault (demand (all_three (is_some t) (is_some i) (is_some p)) fault.Kind
    ∷ demand (all_three true (is_some (option_and_then element_of i)) (is_some (option_and_then parent_of p)) && true) fault.Id
    ∷ demand (all_three (text_length t == 1) true true) fault.Char ∷ demand (nat_lt (first_number p) (first_number i)) fault.Order ∷ [])
insertion_types t i p = grind arith

insertion_members : (four : Bool) (c i p : Option Data)
    → result_err (if four && (is_some c && (is_some i && is_some p))
    then table.with_types (option_and_then as_str c) (option_and_then as_array i) (option_and_then as_array p) else Err fault.Member)
    ≡ first_fault (demand (four && all_three (is_some c) (is_some i) (is_some p)) fault.Member
    ∷ demand (all_three (has_type one_character c) (has_type element i) (has_type element_or_root p)) fault.Kind
    ∷ demand (all_three true (is_identifier element i) (is_identifier element_or_root p) && true) fault.Id
    ∷ demand (all_three (has_length one_character c) true true) fault.Char ∷ demand (nat_lt (counter_in p) (counter_in i)) fault.Order ∷ [])
insertion_members true (Some c) (Some i) (Some p) = insertion_types (as_str c) (as_array i) (as_array p)
insertion_members four c i p = refl

-- ---- a deletion

deletion_identifier : (o : Option Identifier) → result_err (table.with_identifier o)
    ≡ first_fault (demand ((is_some o && true) && true) fault.Id ∷ demand true fault.Char ∷ demand true fault.Order ∷ [])
deletion_identifier None = refl
deletion_identifier (Some id) = refl

deletion_type : (i : Option Items) → result_err (table.with_type i)
    ≡ first_fault (demand (is_some i && true) fault.Kind ∷ demand ((is_some (option_and_then element_of i) && true) && true) fault.Id
    ∷ demand true fault.Char ∷ demand true fault.Order ∷ [])
deletion_type None = refl
deletion_type (Some i) = deletion_identifier (element_of i)

deletion_members : (two : Bool) (i : Option Data)
    → result_err (if two && is_some i then table.with_type (option_and_then as_array i) else Err fault.Member)
    ≡ first_fault (demand (two && (is_some i && true)) fault.Member ∷ demand (has_type element i && true) fault.Kind
    ∷ demand ((is_identifier element i && true) && true) fault.Id ∷ demand true fault.Char ∷ demand true fault.Order ∷ [])
deletion_members true (Some i) = deletion_type (as_array i)
deletion_members two i = refl

-- ---- a run

run_end : (id parent : Identifier) (cs : List ℕ) → result_err (table.with_run_end id parent cs)
    ≡ first_fault (demand (nat_le (id.counter + length cs) (MAX_COUNTER + 1)) fault.Id
    ∷ demand (all_three true true (is_run_length (length cs))) fault.Char ∷ demand (nat_lt parent.counter id.counter) fault.Order ∷ [])
run_end id parent cs = grind arith

run_identifiers : (t : List ℕ) (i p : Option Identifier) (n m : ℕ) → IfSome i (λ id. n ≡ id.counter) → IfSome p (λ id. m ≡ id.counter)
    → result_err (table.with_run_identifiers i p t)
    ≡ first_fault (demand (all_three (is_some i) (is_some p) true && nat_le (n + length (chars t)) (MAX_COUNTER + 1)) fault.Id
    ∷ demand (all_three true true (is_run_length (length (chars t)))) fault.Char ∷ demand (nat_lt m n) fault.Order ∷ [])
run_identifiers t (Some i) (Some p) n m here above = rw (here, above) (run_end i p (chars t))
run_identifiers t i p n m here above = refl

run_types : (t : Option (List ℕ)) (i p : Option Items) → result_err (table.with_run_types t i p)
    ≡ first_fault (demand (all_three (is_some i) (is_some p) (is_some t)) fault.Kind
    ∷ demand (all_three (is_some (option_and_then element_of i)) (is_some (option_and_then parent_of p)) true
    && nat_le (first_number i + text_length t) (MAX_COUNTER + 1)) fault.Id
    ∷ demand (all_three true true (is_run_length (text_length t))) fault.Char ∷ demand (nat_lt (first_number p) (first_number i)) fault.Order ∷ [])
run_types t i p = grind (arith, run_identifiers, element_of, parent_of, two_numbers, element_counter, parent_counter)

run_members : (four : Bool) (i p t : Option Data)
    → result_err (if four && (is_some i && (is_some p && is_some t))
    then table.with_run_types (option_and_then as_str t) (option_and_then as_array i) (option_and_then as_array p) else Err fault.Member)
    ≡ first_fault (demand (four && all_three (is_some i) (is_some p) (is_some t)) fault.Member
    ∷ demand (all_three (has_type element i) (has_type element_or_root p) (has_type run_text t)) fault.Kind
    ∷ demand (all_three (is_identifier element i) (is_identifier element_or_root p) true && nat_le (counter_in i + length_in t) (MAX_COUNTER + 1)) fault.Id
    ∷ demand (all_three true true (has_length run_text t)) fault.Char ∷ demand (nat_lt (counter_in p) (counter_in i)) fault.Order ∷ [])
run_members true (Some i) (Some p) (Some t) = run_types (as_str t) (as_array i) (as_array p)
run_members four i p t = refl

-- ---- a run of deletions

deletions_end : (id : Identifier) (n : ℕ) → result_err (table.with_deletion_end id n)
    ≡ first_fault (demand (nat_le (id.counter + n) (MAX_COUNTER + 1)) fault.Id ∷ demand (is_run_length n && true) fault.Char ∷ demand true fault.Order ∷ [])
deletions_end id n = grind arith

deletions_identifier : (count : ℕ) (i : Option Identifier) (n : ℕ) → IfSome i (λ id. n ≡ id.counter) → result_err (table.with_deletion_identifier i count)
    ≡ first_fault (demand (both true (is_some i) && nat_le (n + count) (MAX_COUNTER + 1)) fault.Id
    ∷ demand (is_run_length count && true) fault.Char ∷ demand true fault.Order ∷ [])
deletions_identifier count None n here = refl
deletions_identifier count (Some i) n here = rw here (deletions_end i count)

deletions_types : (n : Option ℕ) (i : Option Items) → result_err (table.with_deletion_types n i)
    ≡ first_fault (demand (both (is_some n) (is_some i)) fault.Kind
    ∷ demand (both true (is_some (option_and_then element_of i)) && nat_le (first_number i + unwrap_or n 0) (MAX_COUNTER + 1)) fault.Id
    ∷ demand (is_run_length (unwrap_or n 0) && true) fault.Char ∷ demand true fault.Order ∷ [])
deletions_types (Some n) (Some i) = deletions_identifier n (element_of i) (first (two_numbers i)) (element_counter (two_numbers i))
deletions_types n i = refl

deletions_members : (three : Bool) (n i : Option Data)
    → result_err (if three && (is_some n && is_some i)
    then table.with_deletion_types (option_and_then number_of n) (option_and_then as_array i) else Err fault.Member)
    ≡ first_fault (demand (three && both (is_some n) (is_some i)) fault.Member
    ∷ demand (both (has_type deletion_count n) (has_type element i)) fault.Kind
    ∷ demand (both true (is_identifier element i) && nat_le (counter_in i + unwrap_or (number_in n) 0) (MAX_COUNTER + 1)) fault.Id
    ∷ demand (both (has_length deletion_count n) true) fault.Char ∷ demand true fault.Order ∷ [])
deletions_members true (Some n) (Some i) = deletions_types (number_of n) (as_array i)
deletions_members three n i = refl

-- ---- the head and the end of an exchange

is_version : (x : Bool) (r : AnyReading) → r ≡ Ok Head → result_err (if x then r else Err fault.Kind) ≡ first_fault (demand (x && true) fault.Kind ∷ [])
is_version true r e = rw e refl
is_version false r e = refl

head_type : (n : Option ℕ) → result_err (table.with_version n) ≡ first_fault (demand ((unwrap_or n 0 == 2) && true) fault.Kind ∷ [])
head_type None = refl
head_type (Some n) = is_version (n == 2) (Ok Head) refl

head_members : (two : Bool) (v : Option Data)
    → result_err (if two && is_some v then table.with_version (option_and_then number_of v) else Err fault.Member)
    ≡ first_fault (demand (two && (is_some v && true)) fault.Member ∷ demand (has_type version v && true) fault.Kind ∷ [])
head_members true (Some v) = head_type (number_of v)
head_members two v = refl

end_type : (n : Option ℕ) → result_err (ok_or n fault.Kind) ≡ first_fault (demand (is_some n && true) fault.Kind ∷ [])
end_type None = refl
end_type (Some n) = refl

end_members : (two : Bool) (n : Option Data)
    → result_err (if two && is_some n then ok_or (option_and_then number_of n) fault.Kind else Err fault.Member)
    ≡ first_fault (demand (two && (is_some n && true)) fault.Member ∷ demand (has_type operation_count n && true) fault.Kind ∷ [])
end_members true (Some n) = end_type (number_of n)
end_members two n = refl

-- ---- the whole

one : (r : Reading) → result_err (table.single_reading r) ≡ result_err r
one (Ok op) = refl
one (Err e) = refl

deletions : (r : Result DeletionRun LineFault) → result_err (table.run_of_deletions r) ≡ result_err r
deletions (Ok run) = refl
deletions (Err e) = refl

last : (r : Result ℕ LineFault) → result_err (table.last r) ≡ result_err r
last (Ok n) = refl
last (Err e) = refl

-- demands that are met change nothing at the end
met_last : (x y : Bool) (f g : LineFault) → first_fault (demand x f ∷ demand y g ∷ []) ≡ first_fault (demand x f ∷ demand y g ∷ demand true fault.Id ∷ demand true fault.Char ∷ demand true fault.Order ∷ [])
met_last x y f g = grind arith

of_kind : (ms : Members) (i d r ds h e : Bool) → result_err (reading_by ms i d r ds h e) ≡ first_fault (kind_demands (object ms) (kind_by i d r ds h e))
of_kind ms true d r ds h e =
    one (table.insertion (members_len ms) (object ms))
    ∙ insertion_members (members_len ms == 4) (get_member (codes "char") ms) (get_member (codes "id") ms) (get_member (codes "parent") ms)
of_kind ms false true r ds h e =
    one (table.deletion (members_len ms) (object ms)) ∙ deletion_members (members_len ms == 2) (get_member (codes "id") ms)
of_kind ms false false true ds h e =
    run_members (members_len ms == 4) (get_member (codes "id") ms) (get_member (codes "parent") ms) (get_member (codes "text") ms)
of_kind ms false false false true h e =
    deletions (table.deletions_reading (members_len ms) (object ms))
    ∙ deletions_members (members_len ms == 3) (get_member (codes "count") ms) (get_member (codes "id") ms)
of_kind ms false false false false true e =
    let v = get_member (codes "version") ms in
    head_members (members_len ms == 2) v
    ∙ met_last ((members_len ms == 2) && (is_some v && true)) (has_type version v && true) fault.Member fault.Kind
of_kind ms false false false false false true =
    let n = get_member (codes "count") ms in
    last (table.ending (members_len ms) (object ms))
    ∙ (end_members (members_len ms == 2) n
    ∙ met_last ((members_len ms == 2) && (is_some n && true)) (has_type operation_count n && true) fault.Member fault.Kind)
of_kind ms false false false false false false = refl

of_name : (ms : Members) (name : Option (List ℕ)) → result_err (table.with_name (members_len ms) (object ms) name)
    ≡ first_fault (kind_demands (object ms) (option_and_then (kind_among kinds) name))
of_name ms None = refl
of_name ms (Some name) =
    of_kind ms (bytes_eq name (codes "ins")) (bytes_eq name (codes "del")) (bytes_eq name (codes "run")) (bytes_eq name (codes "dels"))
    (bytes_eq name (codes "head")) (bytes_eq name (codes "end"))

of_op : (ms : Members) (op : Option Data) → result_err (table.with_op (members_len ms) (object ms) op)
    ≡ first_fault (demand (is_some op) fault.Member ∷ kind_demands (object ms) (kind_of op))
of_op ms None = refl
of_op ms (Some op) = of_name ms (as_str op)

pub value_faults : (d : Data) → result_err (table.value_line d) ≡ first_fault (value_demands d)
unfolding table.value_line
value_faults (object ms) = of_op ms (get_member (codes "op") ms)
value_faults d = refl

of_text : (is_text : Bool) (d : Option Data) → result_err (table.text_line is_text d)
    ≡ first_fault (demand (is_text && is_some d) fault.Json ∷ read_demands d)
of_text true (Some d) = value_faults d
of_text is_text d = refl

pub line_faults : (bytes : List ℕ) → result_err (table.any_line_at bytes) ≡ first_fault (line_demands bytes)
unfolding table.any_line_at
line_faults bytes = grind (arith, longest_line, read, demand, read_demands, at_most, of_text)

-- ---- one operation alone

after_one : (met : Bool) (f : LineFault) (x y e : Option LineFault) → x ≡ option_or y e
    → (if met then x else Some f) ≡ option_or (if met then y else Some f) e
after_one true f x y e h = h
after_one false f x y e h = refl

after : (ds es : List Demand) → first_fault (ds ++ es) ≡ option_or (first_fault ds) (first_fault es)
after [] es = refl
after (d ∷ ds) es = after_one d.is_met d.fault (first_fault (ds ++ es)) (first_fault ds) (first_fault es) (after ds es)

-- where one operation alone may stand, a reading has its fault, and one of a line that is none has `Kind`
alone : (r : AnyReading) (single : Bool) → IsSound single r → result_err (table.operation_alone r) ≡ option_or (result_err r) (first_fault (demand single fault.Kind ∷ []))
alone r single h = grind arith

pub operation_faults : (bytes : List ℕ) → result_err (table.line_at bytes) ≡ first_fault (operation_demands bytes)
unfolding table.line_at
operation_faults bytes =
    let kind : List Demand = demand (is_operation (read bytes)) fault.Kind ∷ [] in
    alone (table.any_line_at bytes) (is_operation (read bytes)) (sound_line bytes)
    ∙ (ap (λ o. option_or o (first_fault kind)) (line_faults bytes)
    ∙ sym (after (line_demands bytes) kind))
