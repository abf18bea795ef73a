-- No proper beginning of the line of an operation, or of a run, is one of either: the bracket that closes its object is
-- still missing.
use Rattle.rga_lines.proofs.Prelude.{◌≡◌, ℕ, ◌<◌, ◌^◌, zero, suc, Bool, true, false, cond, ◌==◌, ◌-◌, take, nat_lt, if◌then◌else◌, List, [], ◌∷◌, ◌++◌, length, codes, decimal, Option, Some, None, option_map, option_and_then, Err, refl, sym, ap, ◌∙◌}
use Rattle.rga_lines.proofs.Prelude.{subst, arith, append_assoc, length-append, drop, get_or, ⊤, is_utf8, flat_map, IsNumber-decimal, Data, read, of_json, max_depth, as_object, Identifier, Op, Insert, Delete, LineFault, Stretch, escaped}
use Rattle.rga_lines.proofs.Prelude.{pair_text, run_from, IsWritable, IsWritableRun, MAX_LINE, text_line}
use Rattle.json.specs.Token.{Token, end_object, key, number, boolean, null, bad}
use Rattle.json.specs.Word.{word, head, ends_word, literal, number_before, after_number}
use Rattle.json.specs.Text.{content}
use Rattle.json.specs.Lex.{Lexeme, token, comma, colon, string_token, Class, class, Mode, lex, lex_byte, between, in_string, Place, begins_colon, if_allowed, place_token, punctuate, tokens}
use Rattle.json.specs.Json.{Json, Items, Members, Parse, parse_map, after_end_array, items_step, items, members, value_with, value, if_last}
use Rattle.json.proofs.Printed.Numbers.{lex-number}
use Rattle.json.proofs.Printed.Strings.{lex-escape}
use Rattle.rga_lines.specs.Spelling.{line, run_line}
use Rattle.rga_lines.specs.Table.{value_line, any_line_at}
use Rattle.rga_lines.proofs.SpellingLemmas.{escape-encode}
use Rattle.rga_lines.proofs.ReadBack.{InBounds, within, in_bounds}
use Rattle.rga_lines.proofs.RunBack.{escape-encodes}
use Rattle.json.specs.Ascii as ascii
use Rattle.rga_lines.specs.declared.fault.LineFault.TheVariants as fault

-- ---- lexemes and tokens, none of which closes an object

abbrev Stays : Token → Type 0
Stays end_object = ⊥
Stays x = Unit {0}

abbrev Open : List Token → Type 0
Open [] = Unit {0}
Open (t ∷ ts) = Stays t × Open ts

abbrev StaysLexeme : Lexeme → Type 0
StaysLexeme (token t) = Stays t
StaysLexeme x = Unit {0}

abbrev OpenLexemes : List Lexeme → Type 0
OpenLexemes [] = Unit {0}
OpenLexemes (l ∷ ls) = StaysLexeme l × OpenLexemes ls

string_stays : (o : Option (List ℕ)) → Stays (string_token o)
string_stays None = tt
string_stays (Some s) = tt

word_stays : (t : List ℕ) → Stays (word t)
unfolding word
word_stays t = choose (head t == ascii.lower_t) (head t == ascii.lower_f) (head t == ascii.lower_n) _ _ _ _ (literal_stays ascii.true_text (boolean true) tt) (literal_stays ascii.false_text (boolean false) tt) (literal_stays ascii.null_text null tt) (of_number (after_number t))
  where
    one_or_bad : (b : Bool) (u : Token) → Stays u → Stays (cond b u bad)
    one_or_bad true u h = h
    one_or_bad false u h = tt

    literal_stays : (name : List ℕ) (u : Token) → Stays u → Stays (literal name u t)
    literal_stays name u h = one_or_bad _ u h

    of_number : (o : Option (List ℕ)) → Stays (number_before t o)
    of_number None = tt
    of_number (Some rest) = one_or_bad (ends_word rest) (number (take (length t - length rest) t)) tt

    choose : (a b c : Bool) (u v w x : Token) → Stays u → Stays v → Stays w → Stays x → Stays (cond a u (cond b v (cond c w x)))
    choose true b c u v w x h i j k = h
    choose false true c u v w x h i j k = i
    choose false false true u v w x h i j k = j
    choose false false false u v w x h i j k = k

-- ---- a beginning of bytes that close nothing closes nothing

byte_stays : (m : Mode) (c : Class) (x : ℕ) (xs ys : List ℕ) (j k : Mode → List Lexeme) → ((n : Mode) → OpenLexemes (j n) → OpenLexemes (k n)) → OpenLexemes (lex_byte m c x xs j) → OpenLexemes (lex_byte m c x ys k)
byte_stays m c x xs ys j k h h2 = grind (arith, string_stays, word_stays)

front_open : (m : Mode) (front back : List ℕ) → OpenLexemes (lex m (front ++ back)) → OpenLexemes (lex m front)
unfolding lex
front_open m [] back h = tt
front_open m (x ∷ front) back h = byte_stays m (class x) x (front ++ back) front (λ next. lex next (front ++ back)) (λ next. lex next front) (λ next. front_open next front back) h

-- ---- the tokens

allowed : (b : Bool) (t : Token) (k : Place → List Token) (next : Place) → Stays t → ((p : Place) → Open (k p)) → Open (if_allowed b t k next)
allowed true t k next h on = (h, on next)
allowed false t k next h on = (tt, tt)

placed : (p : Place) (t : Token) (colon_next : Bool) (k : Place → List Token) → Stays t → ((q : Place) → Open (k q)) → Open (place_token p t colon_next k)
placed p t colon_next k h h2 = grind arith

punctuated : (p : Place) (ls : List Lexeme) → OpenLexemes ls → Open (punctuate p ls)
unfolding punctuate
punctuated Place.fresh [] h = tt
punctuated Place.after_value [] h = tt
punctuated p (token t ∷ ls) h = placed p t (begins_colon ls) (λ next. punctuate next ls) h.0 (λ q. punctuated q ls h.1)
punctuated Place.after_value (comma ∷ ls) h = punctuated Place.after_comma ls h.1
punctuated Place.after_key (colon ∷ ls) h = punctuated Place.fresh ls h.1
punctuated p ls h = (tt, tt)

-- ---- the value

abbrev NoObject : Json → Type 0
NoObject (Json.object ms) = ⊥
NoObject x = Unit {0}

-- what is left behind what was read closes no object either
abbrev Leaves : {A : Type 0} → Option (A × List Token) → Type 0
Leaves None = ⊤
Leaves (Some p) = Open p.1

abbrev Reads : Option (Json × List Token) → Type 0
Reads None = ⊤
Reads (Some p) = NoObject p.0 × Open p.1

abbrev ReadsOpen : Parse Json → Type 0
ReadsOpen value = (ts : List Token) → Open ts → Reads (value ts)

leaves_map : {A B : Type 0} (f : A → B) (o : Option (A × List Token)) → Leaves o → Leaves (parse_map f o)
leaves_map f None h = tt
leaves_map f (Some p) h = h

end_leaves : (ts : List Token) → Open ts → (rest : List Token) → after_end_array ts ≡ Some rest → Open rest
end_leaves ts h rest h2 = grind arith

module _ (value_of : Parse Json) (reads : ReadsOpen value_of) where
  and_items : (more : Parse Items) → ((ts : List Token) → Open ts → Leaves (more ts)) → (o : Option (Json × List Token)) → Reads o → Leaves (option_and_then (λ q. parse_map (Items.item q.0) (more q.1)) o)
  and_items more on None h = tt
  and_items more on (Some q) h = leaves_map (Items.item q.0) (more q.1) (on q.1 h.1)

  item_turn : (more : Parse Items) → ((ts : List Token) → Open ts → Leaves (more ts)) → (ts : List Token) → Open ts → (o : Option (List Token)) → ((rest : List Token) → o ≡ Some rest → Open rest) → Leaves (items_step value_of more ts o)
  item_turn more on ts h (Some rest) k = k rest refl
  item_turn more on ts h None k = and_items more on (value_of ts) (reads ts h)

  items_leave : (n : ℕ) (ts : List Token) → Open ts → Leaves (items value_of n ts)
  unfolding items
  items_leave zero ts h = tt
  items_leave (suc n) ts h = item_turn (items value_of n) (items_leave n) ts h (after_end_array ts) (end_leaves ts h)

  and_members : (s : List ℕ) (more : Parse Members) → ((ts : List Token) → Open ts → more ts ≡ None) → (o : Option (Json × List Token)) → Reads o → option_and_then (λ q. parse_map (Members.member s q.0) (more q.1)) o ≡ None
  and_members s more on None h = refl
  and_members s more on (Some q) h = ap (parse_map (Members.member s q.0)) (on q.1 h.1)

  no_members : (n : ℕ) (ts : List Token) → Open ts → members value_of n ts ≡ None
  unfolding members
  no_members (suc n) (end_object ∷ ts) h = absurd h.0
  no_members (suc n) (key s ∷ ts) h = and_members s (members value_of n) (no_members n) (value_of ts) (reads ts h.1)
  no_members n ts h = refl

one_level : (a : Parse Items) (o : Parse Members) → ((ts : List Token) → Open ts → Leaves (a ts)) → ((ts : List Token) → Open ts → o ts ≡ None) → ReadsOpen (value_with a o)
one_level a o h h2 = grind arith

value_reads : (depth : ℕ) → ReadsOpen (value depth)
unfolding value
value_reads zero = one_level (λ ts. None) (λ ts. None) (λ ts h. tt) (λ ts h. refl)
value_reads (suc depth) = one_level (λ ts. items (value depth) (length ts) ts) (λ ts. members (value depth) (length ts) ts) (λ ts. items_leave (value depth) (value_reads depth) (length ts) ts) (λ ts. no_members (value depth) (value_reads depth) (length ts) ts)

-- ---- the line

abbrev IsNone : Option Data → Type 0
IsNone None = ⊤
IsNone (Some d) = as_object d ≡ None

no_object : (j : Json) → NoObject j → IsNone (of_json j)
no_object j h = grind arith

if_last_none : (j : Json) (ts : List Token) → NoObject j → IsNone (option_and_then of_json (if_last j ts))
if_last_none j [] h = no_object j h
if_last_none j (t ∷ ts) h = tt

read_none : (o : Option (Json × List Token)) → Reads o → IsNone (option_and_then of_json (option_and_then (λ p. if_last p.0 p.1) o))
read_none None h = tt
read_none (Some p) h = if_last_none p.0 p.1 h.0

-- the bytes are no operation, nor the end of an exchange
abbrev pub IsRefused : List ℕ → Type 0
IsRefused bytes = (e : LineFault) × (any_line_at bytes ≡ Err e)

value_refused : (d : Data) → as_object d ≡ None → value_line d ≡ Err fault.Kind
unfolding value_line
value_refused d e = rw e

open_refused : (bytes : List ℕ) → OpenLexemes (lex between bytes) → IsRefused bytes
unfolding any_line_at
open_refused bytes h = by_length (nat_lt MAX_LINE (length bytes)) (is_utf8 bytes) (read bytes) (read_none (value max_depth (tokens bytes)) (value_reads max_depth (tokens bytes) (punctuated Place.fresh (lex between bytes) h)))
  where
    by_length : (long utf8 : Bool) (o : Option Data) → IsNone o → (e : LineFault) × ((if long then Err fault.Long else text_line utf8 o) ≡ Err e)
    by_length true utf8 o h = (fault.Long, refl)
    by_length false true (Some d) h = (fault.Kind, value_refused d h)
    by_length long utf8 o h = (fault.Json, refl)

-- ---- an operation's line before its last bracket

open_number : (n : ℕ) → n < 2 ^ 64 → (b : ℕ) (more : List ℕ) → ends_word (b ∷ more) ≡ true → OpenLexemes (lex between (b ∷ more)) → OpenLexemes (lex between (decimal n ++ b ∷ more))
open_number n h b more ended on = subst OpenLexemes (sym (lex-number (decimal n) (b ∷ more) (IsNumber-decimal n h) ended)) (tt, on)

open_pair : (s : Identifier) → InBounds s → (more : List ℕ) → OpenLexemes (lex between more) → OpenLexemes (lex between (pair_text s ++ more))
unfolding lex
open_pair s h more on = grind (arith, decimal, open_number, pair_text, append_assoc)

open_char : (c : ℕ) (more : List ℕ) → OpenLexemes (lex between more) → OpenLexemes (lex in_string (escaped c ++ 34 ∷ more))
open_char c more on = subst OpenLexemes (sym (ap (λ (l : List ℕ). lex in_string (l ++ 34 ∷ more)) (sym (escape-encode c)) ∙ lex-escape _ more)) on

-- the line without its last bracket, and then more
abbrev before_last : Op → List ℕ → List ℕ
before_last (Insert id parent ch) more = codes "{\"char\":\"" ++ (escaped ch ++ (codes "\",\"id\":" ++ (pair_text id ++ (codes ",\"op\":\"ins\",\"parent\":" ++ (pair_text parent ++ more)))))
before_last (Delete id) more = codes "{\"id\":" ++ (pair_text id ++ (codes ",\"op\":\"del\"" ++ more))

open_line : (op : Op) → IsWritable op → OpenLexemes (lex between (before_last op []))
unfolding lex content
open_line op h = grind (arith, string_stays, open_char, open_pair, within, in_bounds)

closed : (op : Op) → line op ≡ before_last op (125 ∷ [])
unfolding line
closed (Insert id parent ch) = refl
closed (Delete id) = refl

before_last-append : (op : Op) (more : List ℕ) → before_last op more ≡ before_last op [] ++ more
before_last-append (Insert id parent ch) more = simp append_assoc
before_last-append (Delete id) more = simp append_assoc

-- what stands before some byte of a list stands before its last one
within_init : (xs front back : List ℕ) (a b : ℕ) → xs ++ a ∷ [] ≡ front ++ b ∷ back → (more : List ℕ) × (xs ≡ front ++ more)
within_init xs [] back a b e = (xs, refl)
within_init [] (y ∷ front) back a b e = absurd (omega (arith, ap length e, length-append front (b ∷ back)))
within_init (x ∷ xs) (y ∷ front) back a b e =
    let tails : xs ++ a ∷ [] ≡ front ++ b ∷ back = ap (drop 1) e in
    let heads : x ≡ y = ap (λ (l : List ℕ). get_or l 0 0) e in
    let later = within_init xs front back a b tails in
    (later.0, λ k. heads k ∷ later.1 k)

-- a beginning of bytes that close nothing but by their last one, which it lacks
cut_refused : (text before front back : List ℕ) (b : ℕ) → text ≡ before ++ 125 ∷ [] → OpenLexemes (lex between before) → text ≡ front ++ b ∷ back → IsRefused front
cut_refused text before front back b closes opens e = grind (arith, within_init, open_refused, front_open)

-- no proper beginning of an operation's line is an operation, or the end of an exchange
pub beginning_refused : (op : Op) (front : List ℕ) (b : ℕ) (back : List ℕ) → IsWritable op → line op ≡ front ++ b ∷ back → IsRefused front
beginning_refused op front b back h e =
    cut_refused (line op) (before_last op []) front back b (closed op ∙ before_last-append op (125 ∷ [])) (open_line op h) e

-- ---- the line of a run before its last bracket

open_text : (cs more : List ℕ) → OpenLexemes (lex between more) → OpenLexemes (lex in_string (flat_map escaped cs ++ 34 ∷ more))
open_text cs more on = subst OpenLexemes (sym (ap (λ (l : List ℕ). lex in_string (l ++ 34 ∷ more)) (sym (escape-encodes cs)) ∙ lex-escape _ more)) on

-- the line without its last bracket, and then more
abbrev run_before_last : Stretch → List ℕ → List ℕ
run_before_last r more = run_from r.id r.parent (flat_map escaped r.chars ++ 34 ∷ more)

open_run : (r : Stretch) → IsWritableRun r → OpenLexemes (lex between (run_before_last r []))
unfolding lex content
open_run r h =
    (tt, (tt, (tt, open_pair r.id (within r.id h.id) _ (tt, (tt, (tt, (tt, (tt, (tt, (tt, open_pair r.parent (in_bounds r.parent h.parent) _ (tt, (tt, (tt, (string_stays _, open_text r.chars [] tt))))))))))))))

run_closed : (r : Stretch) → run_line r ≡ run_before_last r (125 ∷ [])
unfolding run_line
run_closed r = refl

run_before_last-append : (r : Stretch) (more : List ℕ) → run_before_last r more ≡ run_before_last r [] ++ more
run_before_last-append r more = simp append_assoc

-- nor is one of the line of a run
pub run_beginning_refused : (r : Stretch) (front : List ℕ) (b : ℕ) (back : List ℕ) → IsWritableRun r → run_line r ≡ front ++ b ∷ back → IsRefused front
run_beginning_refused r front b back h e =
    cut_refused (run_line r) (run_before_last r []) front back b (run_closed r ∙ run_before_last-append r (125 ∷ [])) (open_run r h) e
