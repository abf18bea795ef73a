-- What a line says is well-formed, and an operation alone where its kind is one.
use Rattle.rga_lines.proofs.Prelude.{◌≡◌, ℕ, ◌||◌, ◌==◌, Bool, true, false, cond, nat_lt, List, length, Option, Some, None, Result, Ok, Err, option_and_then, refl, arith}
use Rattle.rga_lines.proofs.Prelude.{⊤, codes, if◌then◌else◌, is_utf8, chars, Data, object, members_len, read, get_member, as_str, Identifier, identifier, is_root, is_in_range}
use Rattle.rga_lines.proofs.Prelude.{checked, DeletionRun, LineFault, One, Run, Deletions, Head, IsRun, IsDeletionRun, Reading, AnyReading, two_numbers, element_of, parent_of, if_in_range}
use Rattle.rga_lines.proofs.Prelude.{longest_line, LineKind, insertion_line, deletion_line, deletions_line, kinds, kind_among, kind_of, is_single, is_operation}
use Rattle.serde_json.specs.Data.{Items, Members}
use Rattle.rga_lines.specs.Table.{number_of}
use Rattle.rga_lines.specs.Faults.{run_line, head_line, end_line}
use Rattle.rga_lines.specs.declared.fault.LineFault.TheVariants as fault
use Rattle.rga_lines.specs.Table as table

abbrev pub IsSoundOperation : Reading → Type 0
IsSoundOperation (Ok op) = checked op ≡ Ok tt
IsSoundOperation (Err e) = ⊤

-- what is said is well-formed, and an operation alone where that is told
abbrev pub IsSound : Bool → AnyReading → Type 0
IsSound single (Ok (One op)) = (checked op ≡ Ok tt) × (single ≡ true)
IsSound single (Ok (Run r)) = IsRun r × (single ≡ false)
IsSound single (Ok (Deletions r)) = IsDeletionRun r × (single ≡ false)
IsSound single (Err e) = ⊤
IsSound single x = single ≡ false

-- the second of two readings is taken where a test failed
either : {A : Type 0} (P : A → Type 0) (b : Bool) (r q : A) → P r → (b ≡ false → P q) → P (cond b r q)
either P true r q first second = first
either P false r q first second = second refl

or_none : (a b : Bool) → a || b ≡ false → (a ≡ false) × (b ≡ false)
or_none true b h = absurd cc
or_none false b h = (refl, h)

-- ---- identifiers

-- the identifier of an element is in the ranges
abbrev IsInRange : Option Identifier → Type 0
IsInRange (Some id) = is_in_range id.counter id.replica ≡ true
IsInRange None = ⊤

element_is_in_range : (p : Option (ℕ × ℕ)) → IsInRange (option_and_then if_in_range p)
element_is_in_range p = grind arith

-- so it is not the root
root_is_out : (counter replica : ℕ) → is_in_range counter replica ≡ true → is_root (identifier counter replica) ≡ false
root_is_out counter replica e = grind arith

-- ---- operations

sound_char : (id parent : Identifier) (ch : Option ℕ) → is_root id ≡ false → IsSoundOperation (table.with_char id parent ch)
sound_char id parent ch h = grind arith

sound_identifiers : (id parent : Option Identifier) (text : List ℕ) → IsInRange id → IsSoundOperation (table.with_identifiers id parent text)
sound_identifiers (Some id) (Some parent) text e = sound_char id parent (table.only_char (chars text)) (root_is_out id.counter id.replica e)
sound_identifiers id parent text e = tt

sound_insertion : (four : Bool) (text : Option (List ℕ)) (id parent : Option Items) → IsSoundOperation (cond four (table.with_types text id parent) (Err fault.Member))
sound_insertion true (Some text) (Some id) (Some parent) = sound_identifiers (element_of id) (parent_of parent) text (element_is_in_range (two_numbers id))
sound_insertion four text id parent = tt

sound_identifier : (id : Option Identifier) → IsInRange id → IsSoundOperation (table.with_identifier id)
sound_identifier (Some id) e = rw (root_is_out id.counter id.replica e)
sound_identifier None e = tt

sound_deletion : (two : Bool) (id : Option Items) → IsSoundOperation (cond two (table.with_type id) (Err fault.Member))
sound_deletion true (Some id) = sound_identifier (element_of id) (element_is_in_range (two_numbers id))
sound_deletion two id = tt

sound_one : (r : Reading) → IsSoundOperation r → IsSound true (table.single_reading r)
sound_one (Ok op) sound = (sound, refl)
sound_one (Err e) sound = tt

-- ---- runs

sound_run_identifiers : (id parent : Option Identifier) (text : List ℕ) → IsSound false (table.with_run_identifiers id parent text)
sound_run_identifiers id parent text = grind arith

sound_run : (four : Bool) (text : Option (List ℕ)) (id parent : Option Items) → IsSound false (cond four (table.with_run_types text id parent) (Err fault.Member))
sound_run true (Some text) (Some id) (Some parent) = sound_run_identifiers (element_of id) (parent_of parent) text
sound_run four text id parent = tt

abbrev IsSoundRun : Result DeletionRun LineFault → Type 0
IsSoundRun (Ok r) = IsDeletionRun r
IsSoundRun (Err e) = ⊤

sound_deletion_identifier : (id : Option Identifier) (count : ℕ) → IsInRange id → IsSoundRun (table.with_deletion_identifier id count)
sound_deletion_identifier id count h = grind arith

sound_deletions : (three : Bool) (count : Option ℕ) (id : Option Items) → IsSoundRun (cond three (table.with_deletion_types count id) (Err fault.Member))
sound_deletions true (Some count) (Some id) = sound_deletion_identifier (element_of id) count (element_is_in_range (two_numbers id))
sound_deletions three count id = tt

sound_run_of_deletions : (r : Result DeletionRun LineFault) → IsSoundRun r → IsSound false (table.run_of_deletions r)
sound_run_of_deletions (Ok r) sound = (sound, refl)
sound_run_of_deletions (Err e) sound = tt

-- ---- the head and the end of an exchange

sound_heading : (two : Bool) (version : Option ℕ) → IsSound false (cond two (table.with_version version) (Err fault.Member))
sound_heading true (Some version) = either (IsSound false) (version == 2) (Ok Head) (Err fault.Kind) refl (λ _. tt)
sound_heading two version = tt

sound_last : (r : Result ℕ LineFault) → IsSound false (table.last r)
sound_last (Ok operations) = refl
sound_last (Err e) = tt

-- ---- the whole

-- by which of the words of `op` the line has
abbrev pub kind_by : Bool → Bool → Bool → Bool → Bool → Bool → Option LineKind
kind_by insertion deletion run deletions_run head end =
    if insertion then Some insertion_line else (if deletion then Some deletion_line else (if run then Some run_line
    else (if deletions_run then Some deletions_line else (if head then Some head_line else (if end then Some end_line else None)))))

abbrev pub reading_by : Members → Bool → Bool → Bool → Bool → Bool → Bool → AnyReading
reading_by ms insertion deletion run deletions_run head end =
    if insertion then table.single_reading (table.insertion (members_len ms) (object ms))
    else (if deletion then table.single_reading (table.deletion (members_len ms) (object ms))
    else (if run then table.run (members_len ms) (object ms)
    else (if deletions_run then table.run_of_deletions (table.deletions_reading (members_len ms) (object ms))
    else (if head then table.heading (members_len ms) (object ms)
    else (if end then table.last (table.ending (members_len ms) (object ms)) else Err fault.Kind)))))

sound_kind : (ms : Members) (i d r ds h e : Bool) → IsSound (is_single (kind_by i d r ds h e)) (reading_by ms i d r ds h e)
sound_kind ms true d r ds h e = grind (arith, sound_one, sound_insertion)
sound_kind ms false true r ds h e = grind (arith, sound_one, sound_deletion)
sound_kind ms false false true ds h e = grind (arith, sound_run)
sound_kind ms false false false true h e = grind (arith, sound_run_of_deletions, sound_deletions)
sound_kind ms false false false false true e = grind (arith, sound_heading)
sound_kind ms false false false false false true = sound_last (table.ending (members_len ms) (object ms))
sound_kind ms false false false false false false = tt

sound_name : (ms : Members) (name : Option (List ℕ))
    → IsSound (is_single (option_and_then (kind_among kinds) name)) (table.with_name (members_len ms) (object ms) name)
sound_name ms None = tt
sound_name ms (Some name) = grind (arith, sound_kind)

sound_op : (ms : Members) (op : Option Data) → IsSound (is_single (kind_of op)) (table.with_op (members_len ms) (object ms) op)
sound_op ms None = tt
sound_op ms (Some op) = sound_name ms (as_str op)

sound_text : (is_text : Bool) (d : Option Data) → IsSound (is_operation d) (table.text_line is_text d)
unfolding table.value_line
sound_text true (Some (object ms)) = sound_op ms (get_member (codes "op") ms)
sound_text is_text d = tt

pub sound_line : (bytes : List ℕ) → IsSound (is_operation (read bytes)) (table.any_line_at bytes)
unfolding table.any_line_at
sound_line bytes =
    either (IsSound (is_operation (read bytes))) (nat_lt longest_line (length bytes)) (Err fault.Long) (table.text_line (is_utf8 bytes) (read bytes)) tt (λ _. sound_text (is_utf8 bytes) (read bytes))
