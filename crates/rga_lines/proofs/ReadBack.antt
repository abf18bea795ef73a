-- What is written is read back.
use Rattle.rga_lines.proofs.Prelude.{◌≡◌, ℕ, ◌<◌, ◌≤◌, ◌^◌, Bool, true, false, List, [], ◌∷◌, ◌++◌, length, codes, decimal, Option, Some, option_and_then, Ok, Err, refl, sym, ap, subst, ◌∙◌, arith, append-nil, inl, inr, ◌||◌, ◌&&◌, lit≤, eqb, leb}
use Rattle.rga_lines.proofs.Prelude.{encode_utf8, IsScalar, IsUtf8, chars, or_cases, and_parts, eqb-true, leb-true, length-append, chars-encodes, IsUtf8-append, IsUtf8-encode, IsUtf8-from_ascii, length-encode, len_utf8_bounds, IsAscii-decimal}
use Rattle.rga_lines.proofs.Prelude.{length-decimal-le, quoted, IsNumber-decimal, IsUtf8-are_ascii, IsUtf8-quoted, Data, unsigned, read, of_json, max_depth, compact_text, outline, MAX_COUNTER, Identifier, is_root, is_in_range, checked, Op, Insert}
use Rattle.rga_lines.proofs.Prelude.{Delete, One, Head, Last, escaped, pair_text, IsWritable, MAX_LINE, any_line_at, line_at}
use Rattle.json.specs.Lex.{tokens}
use Rattle.json.proofs.Printed.Tokens.{tokens-print}
use Rattle.json.proofs.Printed.Trees.{value-json_tokens, ArePrintable-json_tokens}
use Rattle.serde_json.specs.Read.{number_of}
use Rattle.serde_json.proofs.Numbers.{number_of-decimal}
use Rattle.serde_json.proofs.OnLiterals.{serde_json_on_literals}
use Rattle.serde_json.proofs.Texts.{print-outline}
use Rattle.rga_ops.proofs.AnswerLaws.{well_formed_insertion}
use Rattle.rga_lines.specs.declared.line.Line.{Line}
use Rattle.rga_lines.specs.declared.fault.LineFault.TheVariants.{Kind}
use Rattle.rga_lines.specs.Spelling.{line, head_line, end_line}
use Rattle.rga_lines.specs.Table.{value_line}
use Rattle.rga_lines.proofs.ReadingLemmas.{accepted, alone}
use Rattle.rga_lines.proofs.SpellingLemmas.{escaped_all, pair_data, op_data, head_data, end_data, insert_data, insert_text, compact_op, compact_head, compact_end}
use lib.Utf8.{scalar}
use Rattle.json.specs.Json as json
use Rattle.json.specs.Tree as tree

-- ---- a value without floats is read back from its compact text

tokens-compact : (d : Data) → tree.HasNumbers (outline d) → tokens (compact_text d) ≡ tree.json_tokens (outline d)
tokens-compact d h = ap tokens (sym (print-outline d)) ∙ tokens-print (tree.json_tokens (outline d)) (ArePrintable-json_tokens (outline d) h)

-- a text whose tokens are those of a value
pub read_tokens : (text : List ℕ) (j : json.Json) (d : Data) → tokens text ≡ tree.json_tokens j → tree.depth j ≤ max_depth → of_json j ≡ Some d → read text ≡ Some d
read_tokens text j d e shallow back =
    ap (λ (o : Option (json.Json × List _)). option_and_then of_json (option_and_then (λ p. json.if_last p.0 p.1) o))
    (ap (json.value max_depth) (e ∙ sym (append-nil _)) ∙ value-json_tokens j max_depth [] shallow)
    ∙ back

-- ---- identifiers

pub record InBounds (id : Identifier) : Type 0 where
  pub counter : id.counter ≤ MAX_COUNTER
  pub replica : id.replica ≤ 65535

pub within : (id : Identifier) → is_in_range id.counter id.replica ≡ true → InBounds id
within id e =
    let p = and_parts (leb 1 id.counter && leb id.counter MAX_COUNTER) (leb 1 id.replica && leb id.replica 65535) e in
    let q = and_parts (leb 1 id.counter) (leb id.counter MAX_COUNTER) p.0 in
    let r = and_parts (leb 1 id.replica) (leb id.replica 65535) p.1 in
    record { counter = leb-true _ _ q.1; replica = leb-true _ _ r.1 }

at_root : (id : Identifier) → is_root id ≡ true → InBounds id
at_root id e =
    let p = and_parts (eqb id.counter 0) (eqb id.replica 0) e in
    let c : id.counter ≡ 0 = eqb-true _ _ p.0 in
    let d : id.replica ≡ 0 = eqb-true _ _ p.1 in
    record { counter = omega arith; replica = omega arith }

pub in_bounds : (id : Identifier) → is_root id || is_in_range id.counter id.replica ≡ true → InBounds id
in_bounds id e = elim (or_cases (is_root id) (is_in_range id.counter id.replica) e) [ inl r ↦ at_root id r | inr i ↦ within id i ]

-- ---- lengths and characters

pub pair_text-length : (s : Identifier) → InBounds s → length (pair_text s) ≤ 24
pair_text-length s h =
    let c = length-decimal-le 16 s.counter (omega arith) (omega (arith, h.counter)) (omega (arith, h.counter)) in
    let r = length-decimal-le 5 s.replica (omega arith) (omega (arith, h.replica)) (omega (arith, h.replica)) in
    omega (arith, length-append (decimal s.counter) (44 ∷ (decimal s.replica ++ 93 ∷ [])), length-append (decimal s.replica) (93 ∷ []))

pub IsUtf8-decimal : (n : ℕ) → n < 2 ^ 64 → IsUtf8 (decimal n)
IsUtf8-decimal n h = IsUtf8-from_ascii (decimal n) (IsAscii-decimal n h)

pub IsUtf8-pair_text : (s : Identifier) → InBounds s → IsUtf8 (pair_text s)
IsUtf8-pair_text s h =
    IsUtf8-append _ _ (IsUtf8-are_ascii (91 ∷ []) refl)
    (IsUtf8-append _ _ (IsUtf8-decimal s.counter (omega (arith, h.counter)))
    (IsUtf8-append _ _ (IsUtf8-are_ascii (44 ∷ []) refl) (IsUtf8-append _ _ (IsUtf8-decimal s.replica (omega (arith, h.replica))) (IsUtf8-are_ascii (93 ∷ []) refl))))

-- ---- values

pair-number : (s : Identifier) → InBounds s → (number_of (decimal s.counter) ≡ Some (unsigned s.counter)) × (number_of (decimal s.replica) ≡ Some (unsigned s.replica))
pair-number s h = (number_of-decimal s.counter (omega (arith, h.counter)), number_of-decimal s.replica (omega (arith, h.replica)))

pub pair-numbers : (s : Identifier) → InBounds s → tree.HasNumbers (outline (pair_data s))
pair-numbers s h = (IsNumber-decimal s.counter (omega (arith, h.counter)), (IsNumber-decimal s.replica (omega (arith, h.replica)), tt))

pub pair-json : (s : Identifier) → InBounds s → of_json (outline (pair_data s)) ≡ Some (pair_data s)
pair-json s h = rw ((pair-number s h).0, (pair-number s h).1)

-- ---- the whole

one_scalar : (b : Bool) → b ≡ true → (b && true) ≡ true
one_scalar b e = rw e

pub chars-one : (ch : ℕ) → IsScalar ch → chars (encode_utf8 ch) ≡ ch ∷ []
chars-one ch h = ap chars (sym (append-nil (encode_utf8 ch))) ∙ chars-encodes (ch ∷ []) (one_scalar (scalar ch) h)

pub escaped-length : (c : ℕ) → length (escaped c) ≤ 6
escaped-length c = escaped_all (λ (l : List ℕ). length l ≤ 6) c (omega arith) (omega arith) (omega arith) (omega arith) (omega arith) (omega arith) (omega arith) (omega (arith, length-encode c, len_utf8_bounds c))

insert-length : (inside : List ℕ) (id parent : Identifier) → length inside ≤ 6 → InBounds id → InBounds parent → length (insert_text inside id parent) ≤ MAX_LINE
insert-length inside id parent small h k =
    let after = codes ",\"op\":\"ins\",\"parent\":" ++ (pair_text parent ++ codes "}") in
    omega (
      arith,
      length-append inside (codes "\",\"id\":" ++ (pair_text id ++ after)),
      length-append (pair_text id) after,
      length-append (pair_text parent) (codes "}"),
      pair_text-length id h,
      pair_text-length parent k,
    )

insert-utf8 : (text : List ℕ) (id parent : Identifier) → IsUtf8 text → InBounds id → InBounds parent → IsUtf8 (compact_text (insert_data text id parent))
unfolding serde_json_on_literals
insert-utf8 text id parent u h k =
    IsUtf8-append (codes "{\"char\":") (quoted text ++ (codes ",\"id\":" ++ (pair_text id ++ (codes ",\"op\":\"ins\",\"parent\":" ++ (pair_text parent ++ codes "}"))))) (IsUtf8-are_ascii _ refl)
    (IsUtf8-append _ _ (IsUtf8-quoted text u)
    (IsUtf8-append (codes ",\"id\":") _ (IsUtf8-are_ascii _ refl)
    (IsUtf8-append _ _ (IsUtf8-pair_text id h)
    (IsUtf8-append (codes ",\"op\":\"ins\",\"parent\":") _ (IsUtf8-are_ascii _ refl) (IsUtf8-append _ _ (IsUtf8-pair_text parent k) (IsUtf8-are_ascii (codes "}") refl))))))

-- a value whose compact text is a line says what the value says
pub back : (d : Data) (text : List ℕ) (said : Line) → compact_text d ≡ text → length text ≤ MAX_LINE → IsUtf8 text → tree.HasNumbers (outline d) → tree.depth (outline d) ≤ max_depth → of_json (outline d) ≡ Some d → value_line d ≡ Ok said → any_line_at text ≡ Ok said
back d text said e short u numbers shallow parsed says = accepted text d short u (read_tokens text (outline d) d (ap tokens (sym e) ∙ tokens-compact d numbers) shallow parsed) ∙ says

insert_back : (id parent : Identifier) (ch : ℕ) → is_in_range id.counter id.replica ≡ true → is_root parent || is_in_range parent.counter parent.replica ≡ true → leb id.counter parent.counter ≡ false → IsScalar ch → any_line_at (line (Insert id parent ch)) ≡ Ok (One (Insert id parent ch))
unfolding line value_line
insert_back id parent ch h k rising scalar_ch =
    let f = within id h in
    let g = in_bounds parent k in
    let written = compact_op (Insert id parent ch) in
    back (op_data (Insert id parent ch)) (line (Insert id parent ch)) (One (Insert id parent ch)) written (insert-length (escaped ch) id parent (escaped-length ch) f g)
    (subst IsUtf8 written (insert-utf8 (encode_utf8 ch) id parent (IsUtf8-encode ch scalar_ch) f g))
    (tt, (pair-numbers id f, (tt, (pair-numbers parent g, tt))))
    (lit≤ tt)
    (rw (pair-json id f, pair-json parent g))
    (rw (h, k, chars-one ch scalar_ch, rising))

pub delete_back : (id : Identifier) → is_in_range id.counter id.replica ≡ true → any_line_at (line (Delete id)) ≡ Ok (One (Delete id))
unfolding line value_line
delete_back id h =
    let f = within id h in
    back (op_data (Delete id)) (line (Delete id)) (One (Delete id)) (compact_op (Delete id))
    (omega (arith, length-append (pair_text id) (codes ",\"op\":\"del\"}"), pair_text-length id f))
    (IsUtf8-append (codes "{\"id\":") _ (IsUtf8-are_ascii _ refl) (IsUtf8-append _ _ (IsUtf8-pair_text id f) (IsUtf8-are_ascii (codes ",\"op\":\"del\"}") refl)))
    (pair-numbers id f, (tt, tt))
    (lit≤ tt)
    (rw (pair-json id f))
    (rw h)

pub line_back : (op : Op) → IsWritable op → checked op ≡ Ok tt → any_line_at (line op) ≡ Ok (One op)
line_back (Insert id parent ch) h e = insert_back id parent ch h.0 h.1 (well_formed_insertion id parent ch e).1 h.2
line_back (Delete id) h e = delete_back id h

pub operation_back : (op : Op) → IsWritable op → checked op ≡ Ok tt → line_at (line op) ≡ Ok op
operation_back op h e = alone (line op) (Ok (One op)) (line_back op h e)

-- ---- the end of an exchange

pub end_back : (operations : ℕ) → operations < 2 ^ 64 → any_line_at (end_line operations) ≡ Ok (Last operations)
unfolding end_line value_line
end_back operations h =
    back (end_data operations) (end_line operations) (Last operations) (compact_end operations)
    (omega (arith, length-append (decimal operations) (codes ",\"op\":\"end\"}"), length-decimal-le 20 operations (omega arith) (omega (arith, h)) h))
    (IsUtf8-append (codes "{\"count\":") _ (IsUtf8-are_ascii _ refl) (IsUtf8-append _ _ (IsUtf8-decimal operations h) (IsUtf8-are_ascii (codes ",\"op\":\"end\"}") refl)))
    (IsNumber-decimal operations h, (tt, tt))
    (lit≤ tt)
    (rw (number_of-decimal operations h))
    refl

pub end_is_no_operation : (operations : ℕ) → operations < 2 ^ 64 → line_at (end_line operations) ≡ Err Kind
end_is_no_operation operations h = alone (end_line operations) (Ok (Last operations)) (end_back operations h)

-- ---- the head of an exchange

pub head_back : any_line_at head_line ≡ Ok Head
unfolding head_line value_line
head_back =
    back head_data head_line Head compact_head (lit≤ tt) (IsUtf8-are_ascii head_line refl) (tt, (IsNumber-decimal 2 (lit≤ tt), tt)) (lit≤ tt) (rw (number_of-decimal 2 (lit≤ tt))) refl

pub head_is_no_operation : line_at head_line ≡ Err Kind
head_is_no_operation = alone head_line (Ok Head) head_back
