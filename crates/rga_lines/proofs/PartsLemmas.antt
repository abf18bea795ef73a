-- The parts of a line that is spelled in one way.
use Rattle.rga_lines.proofs.Prelude.{lit≤, ◌≡◌, ◌≢◌, ℕ, zero, suc, refl, ◌+◌, ◌-◌, ◌*◌, ◌/◌, ◌%◌, ◌^◌, ◌<◌, ◌≤◌, true, List, [], ◌∷◌, ◌++◌, length, take, drop, decimal, Some, nat_eq, sym, ap, subst, ◌∙◌, arith, append-nil, append_assoc, lt-ltb}
use Rattle.rga_lines.proofs.Prelude.{le-ltb, ne_eqb, IsScalar, IsUtf8, chars, encode_utf8_all, nil_from_length, take-append-drop, encodes-chars, scalars-chars, and_parts, decimal_step, decimal_digit, only_char}
use Rattle.std.specs.Char.{encode_utf8}
use Rattle.std.specs.Cmp.Lexicographic.{pointwise, same_text}
use Rattle.std.proofs.Math.Utf8.{low_scalar}
use Rattle.rga_lines.specs.Spelling.{escaped}
use Rattle.rga_lines.proofs.SpellingLemmas.{wide}
use lib.Utf8.{scalar, scalars}

-- ---- a literal

pub nothing_after : (bytes literal rest : List ℕ) → bytes ≡ literal ++ rest → length rest ≡ 0 → bytes ≡ literal
nothing_after bytes literal rest e none = e ∙ ap (λ l. literal ++ l) (nil_from_length rest none) ∙ append-nil literal

pub parted : (s front rest p : List ℕ) (n : ℕ) → front ≡ take n s → rest ≡ drop n s → true ≡ pointwise nat_eq front p → s ≡ p ++ rest
parted s front rest p n a b same = sym (take-append-drop n s) ∙ (λ i. sym a i ++ sym b i) ∙ ap (λ l. l ++ rest) (same_text front p same)

-- ---- a number

-- the bytes are the number, and then the rest
pub record IsRead (bytes : List ℕ) (value : ℕ) (rest : List ℕ) : Type 0 where
  pub parts : bytes ≡ decimal value ++ rest
  pub some : 0 < value
  pub small : value < 10 ^ 18

-- one digit more
pub next_digit : (value d : ℕ) → 0 < value → value < 10 ^ 17 → d < 10 → decimal (10 * value + d) ≡ decimal value ++ ((48 + d) ∷ [])
next_digit value d some small digit =
    let tens : (10 * value + d) / 10 ≡ value = omega (arith, digit) in
    let ones : (10 * value + d) % 10 ≡ d = omega (arith, digit) in
    decimal_step (10 * value + d) (omega arith) (omega (arith, digit, small)) ∙ (λ i. decimal (tens i) ++ ((48 + ones i) ∷ []))

pub read_zero : (bytes rest : List ℕ) (first : ℕ) → bytes ≡ first ∷ rest → first ≡ 48 → bytes ≡ decimal 0 ++ rest
read_zero bytes rest first is digit = is ∙ (λ i. digit i ∷ rest) ∙ ap (λ l. l ++ rest) (sym (decimal_digit 0 (lit≤ tt)))

pub read_first : (bytes rest : List ℕ) (first value : ℕ) → bytes ≡ first ∷ rest → first ≢ 48 → 48 ≤ first → first < 58 → value ≡ first - 48 → IsRead bytes value rest
read_first bytes rest first value is other low high digit =
    let same : first ≡ 48 + value = omega (arith, low, digit) in
    let few : value < 10 = omega (arith, low, high, digit) in
    record {
      parts = is ∙ (λ i. same i ∷ rest) ∙ ap (λ l. l ++ rest) (sym (decimal_digit value few));
      some = positive value (λ z. other (same ∙ ap (λ v. 48 + v) z));
      small = omega (arith, few);
    }
  where
    positive : (n : ℕ) → (n ≡ 0 → ⊥) → 0 < n
    positive zero h = absurd (h refl)
    positive (suc n) h = omega arith

pub read_next : (bytes rest behind : List ℕ) (next value d : ℕ) → IsRead bytes value rest → rest ≡ next ∷ behind → value < 10 ^ 17 → 48 ≤ next → next < 58 → d ≡ next - 48 → IsRead bytes (10 * value + d) behind
read_next bytes rest behind next value d h more small low high digit =
    let is : next ≡ 48 + d = omega (arith, low, digit) in
    let few : d < 10 = omega (arith, low, high, digit) in
    record {
      parts = h.parts ∙ ap (λ l. decimal value ++ l) (more ∙ (λ i. is i ∷ behind)) ∙ sym (append_assoc (decimal value) ((48 + d) ∷ []) behind) ∙ ap (λ l. l ++ behind) (sym (next_digit value d h.some small few));
      some = omega (arith, h.some);
      small = omega (arith, few, small);
    }

-- ---- a character

itself : (c : ℕ) → 32 ≤ c → c < 128 → c ≢ 34 → c ≢ 92 → escaped c ≡ c ∷ []
unfolding escaped encode_utf8
itself c low high quote back = rw (ne_eqb c 34 quote, ne_eqb c 92 back, ne_eqb c 8 (λ e. omega arith), ne_eqb c 9 (λ e. omega arith), ne_eqb c 10 (λ e. omega arith), ne_eqb c 12 (λ e. omega arith), ne_eqb c 13 (λ e. omega arith), le-ltb c 32 low, lt-ltb c 128 high)

-- an ASCII character that needs no escape
pub plain_spelled : (first : ℕ) (bytes rest : List ℕ) → bytes ≡ first ∷ rest → 32 ≤ first → first < 128 → first ≢ 34 → first ≢ 92 → (bytes ≡ escaped first ++ rest) × IsScalar first
plain_spelled first bytes rest is low high quote back = (is ∙ ap (λ l. l ++ rest) (sym (itself first low high quote back)), low_scalar first (omega arith))

only_is : (cs : List ℕ) (c : ℕ) → only_char cs ≡ Some c → cs ≡ c ∷ []
only_is (d ∷ []) c e = cc
only_is cs c e = absurd cc

pub wide_spelled : (bytes front rest text : List ℕ) (width c : ℕ) → front ≡ take width bytes → rest ≡ drop width bytes → text ≡ front → IsUtf8 front → Some c ≡ only_char (chars text) → 128 ≤ c → (bytes ≡ escaped c ++ rest) × IsScalar c
wide_spelled bytes front rest text width c a b same utf8 one high =
    let u : IsUtf8 text = subst IsUtf8 (sym same) utf8 in
    let e : chars text ≡ c ∷ [] = only_is (chars text) c (sym one) in
    let spelled : escaped c ≡ take width bytes = wide c high ∙ sym (append-nil (encode_utf8 c)) ∙ ap encode_utf8_all (sym e) ∙ encodes-chars text u ∙ same ∙ a in
    (sym (take-append-drop width bytes) ∙ (λ i. sym spelled i ++ sym b i), (and_parts (scalar c) true (ap scalars (sym e) ∙ scalars-chars text u)).0)
