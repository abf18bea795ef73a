-- What C-u and digits write.
use Rattle.std.proofs.Common.{◌≡◌, ◌≢◌, ◌⊎◌, inl, inr, ℕ, zero, suc, ◌+◌, ◌*◌, ◌^◌, ◌<◌, ◌≤◌, min, lit≤, true, Some, None, List, [], ◌∷◌, ◌++◌, refl, sym, ap, ◌∙◌, arith, pow-suc, mul_assoc, mul_comm, mul-one}
use Rattle.std.specs.Char.{digit_value}
use Rattle.std.specs.Str.Parse.{AllDigits, IsNumeral, digits_value, digits_value_after}
use Rattle.mg_keys.specs.declared.argument.Argument.{Argument}
use Rattle.mg_keys.specs.declared.argument.Argument.TheVariants.{Absent, Multiplied, Typed}
use Rattle.mg_keys.specs.Argument.{greatest_argument, capped, with_digit, with_byte, value}
use Rattle.mg_keys.specs.ArgumentKeys.{universals, IsDigit, EndsArgument, AreArgumentKeys, IsArgumentPart}
use Rattle.mg_keys.specs.Begun.{is_given}
use Rattle.mg_keys.specs.Meaning.{meaning_of_keys, plain_meaning}

-- ---- one byte

digit_goes_on : (a : Argument) (d : ℕ) → digit_value d < 10 → with_byte a d ≡ with_digit a (digit_value d)
digit_goes_on a d h = grind arith

-- a key that is neither
nothing_with : (a : Argument) (b : ℕ) → EndsArgument b → with_byte a b ≡ None
nothing_with a b h = grind arith

-- a digit with no C-u before it, too
nothing_without : (b : ℕ) → b ≢ 21 → with_byte Absent b ≡ None
nothing_without b h = grind arith

goes_on : (a c : Argument) (b : ℕ) (bs : List ℕ) → with_byte a b ≡ Some c → plain_meaning a (b ∷ bs) ≡ plain_meaning c bs
goes_on a c b bs e = grind (arith)

ends : (a : Argument) (b : ℕ) (bs : List ℕ) → with_byte a b ≡ None → plain_meaning a (b ∷ bs) ≡ meaning_of_keys (value a) (b ∷ bs)
ends a b bs e = grind (arith)

-- ---- what is at most so much stays so

capped_digit : (m d most : ℕ) → min (10 * min m most + d) most ≡ min (m * 10 + d) most
capped_digit m d most = omega arith

capped_four : (m most : ℕ) → min (4 * min m most) most ≡ min (m * 4) most
capped_four m most = omega arith

capped_first : (d most : ℕ) → d < 10 → 10 ≤ most → d ≡ min (0 * 10 + d) most
capped_first d most h fits = omega arith

-- ---- digits

digits_write : (ds : List ℕ) (m : ℕ) (rest : List ℕ) → AllDigits 10 ds
    → plain_meaning (Typed (capped m)) (ds ++ rest) ≡ plain_meaning (Typed (capped (digits_value_after 10 m ds))) rest
digits_write [] m rest h = refl
digits_write (d ∷ ds) m rest h =
    let e : with_byte (Typed (capped m)) d ≡ Some (Typed (capped (m * 10 + digit_value d))) =
    digit_goes_on (Typed (capped m)) d h.0 ∙ ap (λ n. Some (Typed n)) (capped_digit m (digit_value d) greatest_argument) in
    goes_on (Typed (capped m)) (Typed (capped (m * 10 + digit_value d))) d (ds ++ rest) e
    ∙ digits_write ds (m * 10 + digit_value d) rest h.1

-- ---- C-u

four_more : (m k : ℕ) → m * 4 * 4 ^ k ≡ m * 4 ^ suc k
four_more m k = mul_assoc m 4 (4 ^ k) ∙ ap (λ n. m * n) (mul_comm 4 (4 ^ k) ∙ sym (pow-suc 4 k))

universals_multiply : (k m : ℕ) (rest : List ℕ)
    → plain_meaning (Multiplied (capped m)) (universals k ++ rest) ≡ plain_meaning (Multiplied (capped (m * 4 ^ k))) rest
universals_multiply zero m rest = ap (λ n. plain_meaning (Multiplied (capped n)) rest) (sym (mul-one m))
universals_multiply (suc k) m rest = grind (arith, capped_four, goes_on, four_more, universals_multiply k (m * 4) rest)

after_digits : (k m key : ℕ) (rest : List ℕ) → EndsArgument key
    → plain_meaning (Typed (capped m)) (universals k ++ key ∷ rest) ≡ meaning_of_keys (capped (m * 4 ^ k)) (key ∷ rest)
after_digits zero m key rest h =
    ends (Typed (capped m)) key rest (nothing_with (Typed (capped m)) key h)
    ∙ ap (λ n. meaning_of_keys (capped n) (key ∷ rest)) (sym (mul-one m))
after_digits (suc k) m key rest h =
    let e : with_byte (Typed (capped m)) 21 ≡ Some (Multiplied (capped (m * 4))) =
    ap (λ n. Some (Multiplied n)) (capped_four m greatest_argument) in
    let all : Argument = Multiplied (capped (m * 4 * 4 ^ k)) in
    goes_on (Typed (capped m)) (Multiplied (capped (m * 4))) 21 (universals k ++ key ∷ rest) e
    ∙ (universals_multiply k (m * 4) (key ∷ rest)
    ∙ (ends all key rest (nothing_with all key h)
    ∙ ap (λ n. meaning_of_keys (capped n) (key ∷ rest)) (four_more m k)))

-- ---- what stands before a C-u

next : (a : Argument) (k : ℕ) → is_given a ≡ true → (k ≡ 21) ⊎ IsDigit k → (c : Argument) × (is_given c ≡ true) × (with_byte a k ≡ Some c)
next Absent k given by = absurd cc
next (Multiplied n) k given (inl e) = (Multiplied (capped (4 * n)), refl, ap (with_byte (Multiplied n)) e)
next (Multiplied n) k given (inr d) = (Typed (digit_value k), refl, digit_goes_on (Multiplied n) k d)
next (Typed n) k given (inl e) = (Multiplied (capped (4 * n)), refl, ap (with_byte (Typed n)) e)
next (Typed n) k given (inr d) = (Typed (capped (10 * n + digit_value k)), refl, digit_goes_on (Typed n) k d)

keys_lead : (ks : List ℕ) (a : Argument) (rest : List ℕ) → is_given a ≡ true → AreArgumentKeys ks
    → (m : ℕ) × (plain_meaning a (ks ++ 21 ∷ rest) ≡ plain_meaning (Multiplied m) rest)
keys_lead [] Absent rest given h = absurd cc
keys_lead [] (Multiplied n) rest given h = (capped (4 * n), refl)
keys_lead [] (Typed n) rest given h = (capped (4 * n), refl)
keys_lead (k ∷ ks) a rest given h =
    let c = next a k given h.0 in
    let led = keys_lead ks c.0 rest c.1 h.1 in
    (led.0, goes_on a c.0 k (ks ++ 21 ∷ rest) c.2 ∙ led.1)

part_leads : (front rest : List ℕ) → IsArgumentPart front
    → (m : ℕ) × (plain_meaning Absent (front ++ 21 ∷ rest) ≡ plain_meaning (Multiplied m) rest)
part_leads [] rest h = (4, refl)
part_leads (k ∷ ks) rest h =
    let led = keys_lead ks (Multiplied 4) rest refl h.1 in
    (led.0, goes_on Absent (Multiplied 4) k (ks ++ 21 ∷ rest) (ap (with_byte Absent) h.0) ∙ led.1)

-- ---- the whole

pub no_argument : (key : ℕ) (rest : List ℕ) → key ≢ 21 → plain_meaning Absent (key ∷ rest) ≡ meaning_of_keys 1 (key ∷ rest)
no_argument key rest h = ends Absent key rest (nothing_without key h)

pub powers_of_four : (k key : ℕ) (rest : List ℕ) → EndsArgument key
    → plain_meaning Absent (universals k ++ key ∷ rest) ≡ meaning_of_keys (capped (4 ^ k)) (key ∷ rest)
powers_of_four zero key rest h = ends Absent key rest (nothing_with Absent key h)
powers_of_four (suc k) key rest h =
    let all : Argument = Multiplied (capped (4 * 4 ^ k)) in
    universals_multiply k 4 (key ∷ rest)
    ∙ (ends all key rest (nothing_with all key h)
    ∙ ap (λ n. meaning_of_keys (capped n) (key ∷ rest)) (mul_comm 4 (4 ^ k) ∙ sym (pow-suc 4 k)))

digits_lead : (front : List ℕ) (d : ℕ) (ds tail : List ℕ) → IsArgumentPart front → AllDigits 10 (d ∷ ds)
    → plain_meaning Absent (front ++ 21 ∷ (d ∷ ds ++ tail)) ≡ plain_meaning (Typed (capped (digits_value_after 10 (0 * 10 + digit_value d) ds))) tail
digits_lead front d ds tail part h =
    let led = part_leads front (d ∷ ds ++ tail) part in
    let e : with_byte (Multiplied led.0) d ≡ Some (Typed (capped (0 * 10 + digit_value d))) =
    digit_goes_on (Multiplied led.0) d h.0
    ∙ ap (λ n. Some (Typed n)) (capped_first (digit_value d) greatest_argument h.0 (lit≤ tt)) in
    led.1
    ∙ (goes_on (Multiplied led.0) (Typed (capped (0 * 10 + digit_value d))) d (ds ++ tail) e
    ∙ digits_write ds (0 * 10 + digit_value d) tail h.1)

pub numbers_written : (front digits : List ℕ) (k key : ℕ) (rest : List ℕ) → IsArgumentPart front → IsNumeral 10 digits → EndsArgument key
    → plain_meaning Absent (front ++ 21 ∷ (digits ++ (universals k ++ key ∷ rest)))
    ≡ meaning_of_keys (capped (digits_value 10 digits * 4 ^ k)) (key ∷ rest)
numbers_written front [] k key rest part numeral h = grind (arith)
numbers_written front (d ∷ ds) k key rest part numeral h = grind (arith, digits_lead, after_digits)
