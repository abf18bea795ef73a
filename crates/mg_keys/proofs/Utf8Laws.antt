-- The bytes that are read as a character are its UTF-8, and a proper beginning of them is read as a beginning.
use Rattle.std.proofs.Common.{rules, ◌≡◌, ◌≢◌, ℕ, ◌+◌, ◌-◌, ◌*◌, ◌/◌, ◌%◌, ◌<◌, ◌≤◌, min, List, [], ◌∷◌, ◌++◌, true, false, nat_eq, nat_le, Option, Some, None, if◌then◌else◌, refl, sym, ap, ◌∙◌, subst, arith, le-ltb, lt-ltb}
use Rattle.std.proofs.lemmas.Bool.{cond_both, cases_lt, le-leb, lt-leb, eqb-true, ne_eqb}
use Rattle.std.proofs.lemmas.Bool.Decides.{nat_tests}
use Rattle.std.specs.Char.{encode_utf8, IsScalar}
use Rattle.mg_keys.specs.declared.utf8.Continuation.{Continuation}
use Rattle.mg_keys.specs.Utf8.{is_between, continuation, first_byte, is, begins, neither, is_scalar, joined_bits, ended_character, reading_behind, multibyte_character, characters}

-- ---- tests

scalar-is : (c : ℕ) → is_scalar c ≡ true → IsScalar c
scalar-is c h = grind (arith, nat_tests)

scalar_bound : (c : ℕ) → IsScalar c → c < 1114112
scalar_bound c h = grind (arith, nat_tests)

from_low : (low high b : ℕ) → is_between low high b ≡ true → low ≤ b
from_low low high b h = grind (arith, nat_tests)

up_to_high : (low high b : ℕ) → is_between low high b ≡ true → b ≤ high
up_to_high low high b h = grind (arith, nat_tests)

-- ---- the UTF-8 of a scalar value is read as that value

first_read : {begun : Continuation} (b : ℕ) (bs : List ℕ) → first_byte b ≡ Some begun → multibyte_character b bs ≡ reading_behind begun bs
first_read b bs e = ap (λ o. elim o [ Some k ↦ reading_behind k bs | None ↦ neither ]) e

-- a byte that is not the last
next_read : (count bits low high x : ℕ) (rest : List ℕ) → low ≤ x → x ≤ high → 1 < count → bits * 64 + (x - 128) ≤ 4294967295
    → reading_behind (continuation count bits low high) (x ∷ rest) ≡ reading_behind (continuation (count - 1) (bits * 64 + (x - 128)) 128 191) rest
next_read count bits low high x rest lo hi more fits = grind arith

last_read : (bits low high x c : ℕ) → low ≤ x → x ≤ high → c ≡ bits * 64 + (x - 128) → IsScalar c → reading_behind (continuation 1 bits low high) (x ∷ []) ≡ is c
last_read bits low high x c lo hi code good = grind arith

two_read : (c : ℕ) → 128 ≤ c → c < 2048 → IsScalar c → characters ((192 + c / 64) ∷ (128 + c % 64) ∷ []) ≡ is c
two_read c low h good = grind arith

three_read_by : (c low high : ℕ) → first_byte (224 + c / 4096) ≡ Some (continuation 2 (c / 4096) low high) → low ≤ 128 + c / 64 % 64 → 128 + c / 64 % 64 ≤ high → IsScalar c
    → characters ((224 + c / 4096) ∷ (128 + c / 64 % 64) ∷ (128 + c % 64) ∷ []) ≡ is c
three_read_by c low high first lo hi good = search (rules, scalar_bound, first_read, next_read, last_read)

four_read_by : (c low high : ℕ) → first_byte (240 + c / 262144) ≡ Some (continuation 3 (c / 262144) low high) → low ≤ 128 + c / 4096 % 64 → 128 + c / 4096 % 64 ≤ high → IsScalar c
    → characters ((240 + c / 262144) ∷ (128 + c / 4096 % 64) ∷ (128 + c / 64 % 64) ∷ (128 + c % 64) ∷ []) ≡ is c
four_read_by c low high first lo hi good = search (rules, scalar_bound, first_read, next_read, last_read)

three_read : (c : ℕ) → 2048 ≤ c → c < 65536 → IsScalar c → characters ((224 + c / 4096) ∷ (128 + c / 64 % 64) ∷ (128 + c % 64) ∷ []) ≡ is c
three_read c low h good = grind (arith, cases_lt, three_read_by, lt-leb, ne_eqb, le-leb)

four_read : (c : ℕ) → 65536 ≤ c → IsScalar c → characters ((240 + c / 262144) ∷ (128 + c / 4096 % 64) ∷ (128 + c / 64 % 64) ∷ (128 + c % 64) ∷ []) ≡ is c
four_read c low good = grind (arith, scalar_bound, cases_lt, four_read_by, lt-leb, ne_eqb, le-leb)

pub utf8_read : (c : ℕ) → IsScalar c → 128 ≤ c → characters (encode_utf8 c) ≡ is c
unfolding encode_utf8
utf8_read c good low = grind (arith, cases_lt, le-ltb, lt-ltb, two_read, three_read, four_read)

-- ---- a proper beginning of what is read as a character

record IsEnd (code : ℕ) (bs : List ℕ) (c : ℕ) : Type 0 where
  none : bs ≡ []
  same : code ≡ c
  good : IsScalar c

end_from : (code : ℕ) (bs : List ℕ) (c : ℕ) → ended_character code bs ≡ is c → IsEnd code bs c
end_from code [] c =
    cond_both (is_scalar code) (is code) neither (λ r. r ≡ is c → IsEnd code [] c)
    (λ t e. let same : code ≡ c = cc in record { none = refl; same = same; good = scalar-is c (subst (λ v. is_scalar v ≡ true) same t) })
    (λ _ e. absurd cc)
end_from code (b ∷ bs) c = λ e. absurd cc

not_ended : (code c : ℕ) (bs more : List ℕ) → more ≢ [] → ended_character code (bs ++ more) ≡ is c → ⊥
not_ended code c [] more some e = some (end_from code more c e).none
not_ended code c (b ∷ bs) more some e = absurd cc

reading_behind-begins : (begun : Continuation) (c : ℕ) (bs more : List ℕ) → more ≢ [] → reading_behind begun (bs ++ more) ≡ is c → reading_behind begun bs ≡ begins
reading_behind-begins begun c [] more some = λ _. refl
reading_behind-begins begun c (b ∷ bs) more some =
    let bits = joined_bits begun b in
    let next = continuation (begun.count - 1) bits 128 191 in
    let last = nat_le begun.count 1 in
    let Goal : Type 0 = reading_behind begun (b ∷ bs) ≡ begins in
    cond_both (is_between begun.low begun.high b) (if last then ended_character bits (bs ++ more) else reading_behind next (bs ++ more)) neither (λ r. r ≡ is c → Goal)
    (λ t. cond_both last (ended_character bits (bs ++ more)) (reading_behind next (bs ++ more)) (λ r. r ≡ is c → Goal)
    (λ _ e. absurd (not_ended bits c bs more some e))
    (λ n e. rw (t, n) (reading_behind-begins next c bs more some e)))
    (λ _ e. absurd cc)

characters-begins : (c : ℕ) (bs more : List ℕ) → more ≢ [] → characters (bs ++ more) ≡ is c → characters bs ≡ begins
characters-begins c bs more some = search (rules, reading_behind-begins)

pub utf8_begins : (c : ℕ) (bytes more : List ℕ) → IsScalar c → 128 ≤ c → more ≢ [] → encode_utf8 c ≡ bytes ++ more → characters bytes ≡ begins
utf8_begins c bytes more good low some e = characters-begins c bytes more some (ap characters (sym e) ∙ utf8_read c good low)

-- ---- what is read as a character is UTF-8

-- a last byte is read, and then nothing
record IsLast (bits low high : ℕ) (bs : List ℕ) (c : ℕ) : Type 0 where
  x : ℕ
  all : bs ≡ x ∷ []
  lo : low ≤ x
  hi : x ≤ high
  code : min (bits * 64 + (x - 128)) 4294967295 ≡ c
  good : IsScalar c

-- a byte is read that is not the last
record IsNext (count bits low high : ℕ) (bs : List ℕ) (c : ℕ) : Type 0 where
  x : ℕ
  rest : List ℕ
  all : bs ≡ x ∷ rest
  lo : low ≤ x
  hi : x ≤ high
  left : reading_behind (continuation (count - 1) (min (bits * 64 + (x - 128)) 4294967295) 128 191) rest ≡ is c

last_from : (bits low high : ℕ) (bs : List ℕ) (c : ℕ) → reading_behind (continuation 1 bits low high) bs ≡ is c → IsLast bits low high bs c
last_from bits low high [] c = λ e. absurd cc
last_from bits low high (b ∷ bs) c =
    let code = min (bits * 64 + (b - 128)) 4294967295 in
    cond_both (is_between low high b) (ended_character code bs) neither (λ r. r ≡ is c → IsLast bits low high (b ∷ bs) c)
    (λ t e.
    let end = end_from code bs c e in
    record { x = b; all = ap (λ l. b ∷ l) end.none; lo = from_low low high b t; hi = up_to_high low high b t; code = end.same; good = end.good })
    (λ _ e. absurd cc)

next_from : (count bits low high : ℕ) (bs : List ℕ) (c : ℕ) → nat_le count 1 ≡ false → reading_behind (continuation count bits low high) bs ≡ is c → IsNext count bits low high bs c
next_from count bits low high [] c more = λ e. absurd cc
next_from count bits low high (b ∷ bs) c more =
    let joined = min (bits * 64 + (b - 128)) 4294967295 in
    let left = reading_behind (continuation (count - 1) joined 128 191) bs in
    cond_both (is_between low high b) (if nat_le count 1 then ended_character joined bs else left) neither (λ r. r ≡ is c → IsNext count bits low high (b ∷ bs) c)
    (λ t e.
    let goes-on : left ≡ is c = ap (λ v. if v then ended_character joined bs else left) (sym more) ∙ e in
    record { x = b; rest = bs; all = refl; lo = from_low low high b t; hi = up_to_high low high b t; left = goes-on })
    (λ _ e. absurd cc)

-- the bytes b ∷ bs are the UTF-8 of c, which is none of ASCII
record IsUtf8Of (c b : ℕ) (bs : List ℕ) : Type 0 where
  good : IsScalar c
  high : 128 ≤ c
  bytes : b ∷ bs ≡ encode_utf8 c

two_of : (b x c : ℕ) → 194 ≤ b → b ≤ 223 → 128 ≤ x → x ≤ 191 → c ≡ (b - 192) * 64 + (x - 128) → IsScalar c → IsUtf8Of c b (x ∷ [])
unfolding encode_utf8
two_of b x c least most lo hi code good =
    let first : 192 + c / 64 ≡ b = omega arith in
    let last : 128 + c % 64 ≡ x = omega arith in
    record { good = good; high = omega arith; bytes = rw (le-ltb c 128 (omega arith), lt-ltb c 2048 (omega arith), first, last) refl }

three_of : (b x y c : ℕ) → 224 ≤ b → b ≤ 239 → (b ≡ 224 → 160 ≤ x) → 128 ≤ x → x ≤ 191 → 128 ≤ y → y ≤ 191 → c ≡ ((b - 224) * 64 + (x - 128)) * 64 + (y - 128) → IsScalar c
    → IsUtf8Of c b (x ∷ y ∷ [])
unfolding encode_utf8
three_of b x y c least most narrow x-lo x-hi y-lo y-hi code good =
    let above : 2048 ≤ c = grind arith in
    let first : 224 + c / 4096 ≡ b = omega arith in
    let second : 128 + (c / 64) % 64 ≡ x = omega arith in
    let last : 128 + c % 64 ≡ y = omega arith in
    record { good = good; high = omega arith; bytes = rw (le-ltb c 128 (omega arith), le-ltb c 2048 above, lt-ltb c 65536 (omega arith), first, second, last) refl }

four_of : (b x y z c : ℕ) → 240 ≤ b → b ≤ 244 → (b ≡ 240 → 144 ≤ x) → 128 ≤ x → x ≤ 191 → 128 ≤ y → y ≤ 191 → 128 ≤ z → z ≤ 191
    → c ≡ (((b - 240) * 64 + (x - 128)) * 64 + (y - 128)) * 64 + (z - 128) → IsScalar c → IsUtf8Of c b (x ∷ y ∷ z ∷ [])
unfolding encode_utf8
four_of b x y z c least most narrow x-lo x-hi y-lo y-hi z-lo z-hi code good =
    let above : 65536 ≤ c = grind arith in
    let first : 240 + c / 262144 ≡ b = omega arith in
    let second : 128 + (c / 4096) % 64 ≡ x = omega arith in
    let third : 128 + (c / 64) % 64 ≡ y = omega arith in
    let last : 128 + c % 64 ≡ z = omega arith in
    record { good = good; high = omega arith; bytes = rw (le-ltb c 128 (omega arith), le-ltb c 2048 (omega arith), le-ltb c 65536 above, first, second, third, last) refl }

two_from : (b : ℕ) (bs : List ℕ) (c : ℕ) → 194 ≤ b → b ≤ 223 → reading_behind (continuation 1 (b - 192) 128 191) bs ≡ is c → IsUtf8Of c b bs
two_from b bs c least most e =
    let p = last_from (b - 192) 128 191 bs c e in
    let code : c ≡ (b - 192) * 64 + (p.x - 128) = omega (arith, p.code, p.hi) in
    subst (IsUtf8Of c b) (sym p.all) (two_of b p.x c least most p.lo p.hi code p.good)

three_from : (b bits low high : ℕ) (bs : List ℕ) (c : ℕ) → 224 ≤ b → b ≤ 239 → bits ≡ b - 224 → 128 ≤ low → high ≤ 191 → (b ≡ 224 → 160 ≤ low)
    → reading_behind (continuation 2 bits low high) bs ≡ is c → IsUtf8Of c b bs
three_from b bits low high bs c least most is-bits above below narrow e =
    let p = next_from 2 bits low high bs c refl e in
    let joined = min (bits * 64 + (p.x - 128)) 4294967295 in
    let whole : joined ≡ (b - 224) * 64 + (p.x - 128) = omega (arith, p.hi) in
    let q = last_from joined 128 191 p.rest c p.left in
    let code : c ≡ ((b - 224) * 64 + (p.x - 128)) * 64 + (q.x - 128) = omega (arith, whole, q.code, p.hi, q.hi) in
    let form = three_of b p.x q.x c least most (λ h. omega (arith, narrow h, p.lo)) (omega (arith, p.lo)) (omega (arith, p.hi)) q.lo q.hi code q.good in
    subst (IsUtf8Of c b) (sym (p.all ∙ ap (λ l. p.x ∷ l) q.all)) form

four_from : (b bits low high : ℕ) (bs : List ℕ) (c : ℕ) → 240 ≤ b → b ≤ 244 → bits ≡ b - 240 → 128 ≤ low → high ≤ 191 → (b ≡ 240 → 144 ≤ low)
    → reading_behind (continuation 3 bits low high) bs ≡ is c → IsUtf8Of c b bs
four_from b bits low high bs c least most is-bits above below narrow e =
    let p = next_from 3 bits low high bs c refl e in
    let joined = min (bits * 64 + (p.x - 128)) 4294967295 in
    let whole : joined ≡ (b - 240) * 64 + (p.x - 128) = omega (arith, p.hi) in
    let q = next_from 2 joined 128 191 p.rest c refl p.left in
    let joined-on = min (joined * 64 + (q.x - 128)) 4294967295 in
    let whole-on : joined-on ≡ ((b - 240) * 64 + (p.x - 128)) * 64 + (q.x - 128) = omega (arith, whole, p.hi, q.hi) in
    let r = last_from joined-on 128 191 q.rest c q.left in
    let code : c ≡ (((b - 240) * 64 + (p.x - 128)) * 64 + (q.x - 128)) * 64 + (r.x - 128) = omega (arith, whole-on, r.code, p.hi, q.hi, r.hi) in
    let form = four_of b p.x q.x r.x c least most (λ h. omega (arith, narrow h, p.lo)) (omega (arith, p.lo)) (omega (arith, p.hi)) q.lo q.hi r.lo r.hi code r.good in
    subst (IsUtf8Of c b) (sym (p.all ∙ ap (λ l. p.x ∷ l) (q.all ∙ ap (λ l. q.x ∷ l) r.all))) form

-- ---- the rows of the table, by their first bytes

at_224 : (b : ℕ) (bs : List ℕ) (c : ℕ) → b ≡ 224 → reading_behind (continuation 2 0 160 191) bs ≡ is c → IsUtf8Of c b bs
at_224 b bs c at = three_from b 0 160 191 bs c (omega arith) (omega arith) (omega arith) (omega arith) (omega arith) (λ _. omega arith)

at_237 : (b : ℕ) (bs : List ℕ) (c : ℕ) → b ≡ 237 → reading_behind (continuation 2 13 128 159) bs ≡ is c → IsUtf8Of c b bs
at_237 b bs c at = three_from b 13 128 159 bs c (omega arith) (omega arith) (omega arith) (omega arith) (omega arith) (λ e. absurd (omega (arith, e)))

from_225 : (b : ℕ) (bs : List ℕ) (c : ℕ) → 225 ≤ b → b ≤ 239 → reading_behind (continuation 2 (b - 224) 128 191) bs ≡ is c → IsUtf8Of c b bs
from_225 b bs c least most = three_from b (b - 224) 128 191 bs c (omega arith) most refl (omega arith) (omega arith) (λ e. absurd (omega (arith, e)))

at_240 : (b : ℕ) (bs : List ℕ) (c : ℕ) → b ≡ 240 → reading_behind (continuation 3 0 144 191) bs ≡ is c → IsUtf8Of c b bs
at_240 b bs c at = four_from b 0 144 191 bs c (omega arith) (omega arith) (omega arith) (omega arith) (omega arith) (λ _. omega arith)

from_241 : (b : ℕ) (bs : List ℕ) (c : ℕ) → 241 ≤ b → b ≤ 243 → reading_behind (continuation 3 (b - 240) 128 191) bs ≡ is c → IsUtf8Of c b bs
from_241 b bs c least most = four_from b (b - 240) 128 191 bs c (omega arith) (omega arith) refl (omega arith) (omega arith) (λ e. absurd (omega (arith, e)))

at_244 : (b : ℕ) (bs : List ℕ) (c : ℕ) → b ≡ 244 → reading_behind (continuation 3 4 128 143) bs ≡ is c → IsUtf8Of c b bs
at_244 b bs c at = four_from b 4 128 143 bs c (omega arith) (omega arith) (omega arith) (omega arith) (omega arith) (λ e. absurd (omega (arith, e)))

utf8_from : (b : ℕ) (bs : List ℕ) (c : ℕ) → multibyte_character b bs ≡ is c → IsUtf8Of c b bs
utf8_from b bs c =
    let P : Option Continuation → Type 0 = λ o. elim o [ Some k ↦ reading_behind k bs | None ↦ neither ] ≡ is c → IsUtf8Of c b bs in
    cond_both (is_between 194 223 b) _ _ P (λ t. two_from b bs c (from_low 194 223 b t) (up_to_high 194 223 b t))
    (λ _. cond_both (nat_eq b 224) _ _ P (λ t. at_224 b bs c (eqb-true b 224 t))
    (λ _. cond_both (nat_eq b 237) _ _ P (λ t. at_237 b bs c (eqb-true b 237 t))
    (λ _. cond_both (is_between 225 239 b) _ _ P (λ t. from_225 b bs c (from_low 225 239 b t) (up_to_high 225 239 b t))
    (λ _. cond_both (nat_eq b 240) _ _ P (λ t. at_240 b bs c (eqb-true b 240 t))
    (λ _. cond_both (is_between 241 243 b) _ _ P (λ t. from_241 b bs c (from_low 241 243 b t) (up_to_high 241 243 b t))
    (λ _. cond_both (nat_eq b 244) _ _ P (λ t. at_244 b bs c (eqb-true b 244 t)) (λ _ e. absurd cc)))))))

pub only_utf8 : (bytes : List ℕ) (c : ℕ) → characters bytes ≡ is c → IsScalar c × (128 ≤ c) × (bytes ≡ encode_utf8 c)
only_utf8 [] c e = absurd cc
only_utf8 (b ∷ bs) c e = let u = utf8_from b bs c e in (u.good, u.high, u.bytes)
