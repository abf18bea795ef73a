-- How a report stands to the line of operations with the same bytes.
use Rattle.std.proofs.Common.{◌≡◌, ◌≢◌, ℕ, ◌≤◌, Bool, true, false, List, length, Option, Some, None, Err, if◌then◌else◌, refl, sym, ap, ◌∙◌, codes, nat_lt, le-ltb}
use Rattle.std.specs.Prelude.{option_and_then}
use Rattle.std.specs.Str.{IsUtf8, is_utf8, bytes_eq}
use Rattle.std.proofs.lemmas.Bool.{ltb-false}
use Rattle.std.proofs.lemmas.Str.{is_utf8-from_IsUtf8, IsUtf8-from_is_utf8}
use Rattle.std.proofs.lemmas.Slice.Eq.{bytes_eq-Decides}
use Rattle.serde_json.specs.Data.{Data, null, boolean, number, string, array, object}
use Rattle.serde_json.specs.Events.{members_len}
use Rattle.serde_json.specs.Read.{read}
use Rattle.serde_json.specs.Find.{get_member, as_str}
use Rattle.rga_lines.specs.declared.fault.LineFault.TheVariants as fault
use Rattle.rga_lines.specs.Memory.{LineMemory}
use Rattle.rga_lines.specs.Table as table
use Rattle.rga_lines.specs.Table.{AnyReading, value_line, text_line, any_line_at}
use Rattle.mg_events.specs.Faults.{ReportKind, paste_report, splice_report, size_report, places_report, rest_report, kinds, kind_among}
use Rattle.mg_events.specs.Reports.{ReportReading, member_count, paste, splice, size, places, rest, operations_report, of_kind, with_name, value_report, text_report, report_at}

abbrev pub of_other_kind : AnyReading
of_other_kind = Err fault.Kind

-- ---- by name

-- What a report says, and of which kind it is, by its name: it is one of these, or none.
module _ (P : ReportReading → Option ReportKind → Type 0) (name : List ℕ) where
  chosen : (word : List ℕ) (first others : ReportReading) (kind : ReportKind) (more : Option ReportKind) → (name ≡ word → P first (Some kind)) → P others more
      → P (if bytes_eq name word then first else others) (if bytes_eq name word then Some kind else more)
  chosen word first others kind more here later = by (bytes_eq name word) refl
    where
      by : (b : Bool) → bytes_eq name word ≡ b → P (if b then first else others) (if b then Some kind else more)
      by true e = here ((bytes_eq-Decides name word).0 e)
      by false e = later

  pub by_kind : (said : AnyReading) (d : Data)
      → (name ≡ codes "paste" → P (paste (member_count d) d) (Some paste_report))
      → (name ≡ codes "splice" → P (splice (member_count d) d) (Some splice_report))
      → (name ≡ codes "size" → P (size (member_count d) d) (Some size_report))
      → (name ≡ codes "places" → P (places (member_count d) d) (Some places_report))
      → (name ≡ codes "rest" → P (rest (member_count d)) (Some rest_report))
      → P (operations_report said) None → P (of_kind said d name) (kind_among kinds name)
  by_kind said d pasted spliced sized placed rested other =
      let m : ℕ = member_count d in
      let r4 : ReportReading = (if bytes_eq name (codes "rest") then rest m else operations_report said) in
      let r3 : ReportReading = (if bytes_eq name (codes "places") then places m d else r4) in
      let r2 : ReportReading = (if bytes_eq name (codes "size") then size m d else r3) in
      let r1 : ReportReading = (if bytes_eq name (codes "splice") then splice m d else r2) in
      let k4 : Option ReportKind = (if bytes_eq name (codes "rest") then Some rest_report else None) in
      let k3 : Option ReportKind = (if bytes_eq name (codes "places") then Some places_report else k4) in
      let k2 : Option ReportKind = (if bytes_eq name (codes "size") then Some size_report else k3) in
      let k1 : Option ReportKind = (if bytes_eq name (codes "splice") then Some splice_report else k2) in
      chosen (codes "paste") (paste m d) r1 paste_report k1 pasted
      (chosen (codes "splice") (splice m d) r2 splice_report k2 spliced
      (chosen (codes "size") (size m d) r3 size_report k3 sized
      (chosen (codes "places") (places m d) r4 places_report k4 placed
      (chosen (codes "rest") (rest m) (operations_report said) rest_report None rested other))))

-- ---- by value

named_other : (said : AnyReading) (n : ℕ) (d : Data) (name : List ℕ) → said ≡ table.of_kind n d name → said ≢ of_other_kind
    → of_kind said d name ≡ operations_report said
named_other said n d name is other =
    by_kind (λ r kind. r ≡ operations_report said) name said d
    (λ e. absurd (other (is ∙ ap (table.of_kind n d) e))) (λ e. absurd (other (is ∙ ap (table.of_kind n d) e)))
    (λ e. absurd (other (is ∙ ap (table.of_kind n d) e))) (λ e. absurd (other (is ∙ ap (table.of_kind n d) e)))
    (λ e. absurd (other (is ∙ ap (table.of_kind n d) e))) refl

op_other : (said : AnyReading) (n : ℕ) (d : Data) (op : Option Data) → said ≡ table.with_op n d op → said ≢ of_other_kind
    → with_name said d (option_and_then as_str op) ≡ operations_report said
op_other said n d None is other = refl
op_other said n d (Some op) is other = by (as_str op) is
  where
    by : (name : Option (List ℕ)) → said ≡ table.with_name n d name → with_name said d name ≡ operations_report said
    by None said_is = refl
    by (Some name) said_is = named_other said n d name said_is other

value_other : (d : Data) → value_line d ≢ of_other_kind → value_report d ≡ operations_report (value_line d)
unfolding value_report value_line
value_other null other = refl
value_other (boolean b) other = refl
value_other (number n) other = refl
value_other (string s) other = refl
value_other (array ds) other = refl
value_other (object ms) other =
    op_other (value_line (object ms)) (members_len ms) (object ms) (get_member (codes "op") ms) refl other

-- ---- by bytes

abbrev pub line_by : Bool → Bool → Option Data → AnyReading
line_by long utf8 d = if long then Err fault.Long else text_line utf8 d

abbrev pub report_by : Bool → Bool → Option Data → ReportReading
report_by long utf8 d = if long then Err fault.Long else text_report utf8 d

parts_other : (long utf8 : Bool) (d : Option Data) → line_by long utf8 d ≢ of_other_kind → report_by long utf8 d ≡ operations_report (line_by long utf8 d)
parts_other true utf8 d other = refl
parts_other false true (Some d) other = value_other d other
parts_other false true None other = refl
parts_other false false d other = refl

pub line_other : (bytes : List ℕ) → any_line_at bytes ≢ of_other_kind → report_at bytes ≡ operations_report (any_line_at bytes)
unfolding any_line_at report_at
line_other bytes other = parts_other (nat_lt 65536 (length bytes)) (is_utf8 bytes) (read bytes) other

-- ---- what was said of the bytes as a line of operations

pub other_said : (bytes : List ℕ) (said : AnyReading) (r : ReportReading) → (said ≢ Err LineMemory → said ≡ any_line_at bytes) → said ≢ of_other_kind
    → r ≡ operations_report said → r ≢ Err LineMemory → r ≡ report_at bytes
other_said bytes said r exact other is no_memory =
    let known : said ≡ any_line_at bytes = exact (λ e. no_memory (is ∙ ap operations_report e)) in
    is ∙ ap operations_report known ∙ sym (line_other bytes (λ e. other (known ∙ e)))

-- ---- what the value says

pub is_short : (bytes : List ℕ) (said : AnyReading) → (said ≢ Err LineMemory → said ≡ any_line_at bytes) → said ≡ of_other_kind → length bytes ≤ 65536
unfolding any_line_at
is_short bytes said exact is = by (nat_lt 65536 (length bytes)) refl (sym (exact (λ m. kind_is_other (sym is ∙ m))) ∙ is)
  where
    kind_is_other : of_other_kind ≡ Err LineMemory → ⊥
    kind_is_other e = cc

    by : (b : Bool) → nat_lt 65536 (length bytes) ≡ b → line_by b (is_utf8 bytes) (read bytes) ≡ Err fault.Kind → length bytes ≤ 65536
    by true long said = absurd cc
    by false short said = ltb-false 65536 (length bytes) short

is_refused : (utf8 : Bool) (value : Option Data) → (utf8 ≡ true → value ≡ None) → text_report utf8 value ≡ Err fault.Json
is_refused true value h = rw (h refl)
is_refused false value h = refl

pub refused : (bytes : List ℕ) → length bytes ≤ 65536 → (IsUtf8 bytes → read bytes ≡ None) → report_at bytes ≡ Err fault.Json
unfolding report_at
refused bytes h none = rw (le-ltb _ _ h) (is_refused (is_utf8 bytes) (read bytes) (λ e. none (IsUtf8-from_is_utf8 bytes e)))

pub accepted : (bytes : List ℕ) (d : Data) → length bytes ≤ 65536 → IsUtf8 bytes → read bytes ≡ Some d → report_at bytes ≡ value_report d
unfolding report_at
accepted bytes d h text e =
    rw (le-ltb _ _ h) (ap (λ (b : Bool). text_report b (read bytes)) (is_utf8-from_IsUtf8 bytes text) ∙ ap (text_report true) e)
