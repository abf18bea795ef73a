-- The compact text of the value of an operation, or of the end of an exchange, is its line.
use Rattle.rga_lines.proofs.Prelude.{lit≤, ◌≡◌, ℕ, ◌<◌, ◌≤◌, List, [], ◌∷◌, ◌++◌, ◌⊎◌, inl, inr, codes, refl, sym, ap, ◌∙◌, arith, append_assoc, append-nil, lt-ltb, le-ltb, ne_eqb, cases_eq}
use Rattle.rga_lines.proofs.Prelude.{cases_lt, encode_ascii, escape, decimal_digit, Data, unsigned, array, item, no_items, object, member, no_members, compact_text, Identifier, Op, Insert, Delete, code_escape, pair_text}
use Rattle.std.specs.Char.{encode_utf8}
use Rattle.json.specs.Print.{escape_byte}
use Rattle.json.proofs.Printed.Strings.{escape_byte_plain}
use Rattle.serde_json.specs.Data.{number, string}
use Rattle.serde_json.proofs.OnLiterals.{serde_json_on_literals}
use Rattle.rga_lines.specs.Spelling.{escaped, line, head_line, end_line}

-- ---- the value of JSON of an operation

abbrev pub pair_data : Identifier → Data
pair_data id = array (item (number (unsigned id.counter)) (item (number (unsigned id.replica)) no_items))

abbrev pub op_data : Op → Data
op_data (Insert id parent ch) = object (member (codes "char") (string (encode_utf8 ch)) (member (codes "id") (pair_data id) (member (codes "op") (string (codes "ins")) (member (codes "parent") (pair_data parent) no_members))))
op_data (Delete id) = object (member (codes "id") (pair_data id) (member (codes "op") (string (codes "del")) no_members))

abbrev pub end_data : ℕ → Data
end_data operations = object (member (codes "count") (number (unsigned operations)) (member (codes "op") (string (codes "end")) no_members))

abbrev pub head_data : Data
head_data = object (member (codes "op") (string (codes "head")) (member (codes "version") (number (unsigned 2)) no_members))

-- ---- one character

-- what holds of a short escape, of a character behind a backslash, of its four digits and of its UTF-8 holds of what is written
pub escaped_all : (P : List ℕ → Type 0) (c : ℕ) → P (codes "\\b") → P (codes "\\t") → P (codes "\\n") → P (codes "\\f") → P (codes "\\r")
    → P (92 ∷ c ∷ []) → P (code_escape c) → P (encode_utf8 c) → P (escaped c)
unfolding escaped
escaped_all P c back tab line feed return behind digits plain = grind arith

-- no byte needs an escape
abbrev pub Plain : List ℕ → Type 0
Plain [] = Unit {0}
Plain (x ∷ xs) = (128 ≤ x) × Plain xs

escape-plain : (bs : List ℕ) → Plain bs → escape bs ≡ bs
escape-plain [] h = refl
escape-plain (x ∷ xs) h = ap (λ (ys : List ℕ). ys ++ escape xs) (escape_byte_plain x (λ e. omega arith) (λ e. omega arith) (omega arith)) ∙ ap (λ (ys : List ℕ). x ∷ ys) (escape-plain xs h.1)

pub Plain-encode : (c : ℕ) → 128 ≤ c → Plain (encode_utf8 c)
unfolding encode_utf8
Plain-encode c h = grind arith

-- an ASCII character
ascii : (c : ℕ) → c < 128 → escape_byte c ≡ escaped c
unfolding escape_byte escaped encode_utf8
ascii c lt = grind (arith, cases_eq, cases_lt, ne_eqb, lt-ltb, le-ltb)

pub wide : (c : ℕ) → 128 ≤ c → escaped c ≡ encode_utf8 c
unfolding escaped
wide c h = rw (ne_eqb c 34 (λ e. omega arith), ne_eqb c 92 (λ e. omega arith), ne_eqb c 8 (λ e. omega arith), ne_eqb c 9 (λ e. omega arith), ne_eqb c 10 (λ e. omega arith), ne_eqb c 12 (λ e. omega arith), ne_eqb c 13 (λ e. omega arith), le-ltb c 32 (omega arith))

pub escape-encode : (c : ℕ) → escape (encode_utf8 c) ≡ escaped c
escape-encode c = go (cases_lt c 128)
  where
    go : (c < 128) ⊎ (128 ≤ c) → escape (encode_utf8 c) ≡ escaped c
    go (inl lt) = ap escape (encode_ascii c lt) ∙ append-nil (escape_byte c) ∙ ascii c lt
    go (inr le) = escape-plain (encode_utf8 c) (Plain-encode c le) ∙ sym (wide c le)

-- ---- whole lines

abbrev pub insert_data : List ℕ → Identifier → Identifier → Data
insert_data text id parent = object (member (codes "char") (string text) (member (codes "id") (pair_data id) (member (codes "op") (string (codes "ins")) (member (codes "parent") (pair_data parent) no_members))))

abbrev pub insert_text : List ℕ → Identifier → Identifier → List ℕ
insert_text inside id parent = codes "{\"char\":\"" ++ (inside ++ (codes "\",\"id\":" ++ (pair_text id ++ (codes ",\"op\":\"ins\",\"parent\":" ++ (pair_text parent ++ codes "}")))))

pub compact_insert : (text : List ℕ) (id parent : Identifier) → compact_text (insert_data text id parent) ≡ insert_text (escape text) id parent
unfolding serde_json_on_literals
compact_insert text id parent = ap (λ (t : List ℕ). codes "{\"char\":\"" ++ t) (append_assoc (escape text) (34 ∷ []) (codes ",\"id\":" ++ (pair_text id ++ (codes ",\"op\":\"ins\",\"parent\":" ++ (pair_text parent ++ codes "}")))))

pub compact_op : (op : Op) → compact_text (op_data op) ≡ line op
unfolding line serde_json_on_literals
compact_op (Insert id parent ch) = compact_insert (encode_utf8 ch) id parent ∙ ap (λ (inside : List ℕ). insert_text inside id parent) (escape-encode ch)
compact_op (Delete id) = refl

pub compact_head : compact_text head_data ≡ head_line
unfolding head_line serde_json_on_literals
compact_head = ap (λ ds. codes "{\"op\":\"head\",\"version\":" ++ (ds ++ codes "}")) (decimal_digit 2 (lit≤ tt))

pub compact_end : (operations : ℕ) → compact_text (end_data operations) ≡ end_line operations
unfolding end_line serde_json_on_literals
compact_end operations = refl
