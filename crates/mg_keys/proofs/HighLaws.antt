-- A byte from 128 on stands in no key sequence, and begins a character.
use Rattle.std.proofs.Common.{◌≡◌, ℕ, ◌<◌, ◌≤◌, List, [], ◌∷◌, Bool, true, false, nat_eq, nat_lt, Option, Some, None, if◌then◌else◌, ◌&&◌, refl, ap, ◌∙◌, arith}
use Rattle.std.proofs.lemmas.Bool.{and_parts, le-leb, lt-leb, ltb-true}
use Rattle.std.proofs.lemmas.Bool.Decides.{nat_tests}
use Rattle.std.specs.List.{list_any}
use Rattle.mg_keys.specs.declared.command.KeyCommand.{KeyCommand}
use Rattle.mg_keys.specs.declared.argument.Argument.{Argument}
use Rattle.mg_keys.specs.declared.step.Step.TheVariants as step
use Rattle.mg_keys.specs.KeyTable.{Row, rows, same_keys, begins, first_with, bound, begins_some}
use Rattle.mg_keys.specs.Utf8.{multibyte_character}
use Rattle.mg_keys.specs.Argument.{with_byte, value}
use Rattle.mg_keys.specs.Commands.{step_of}
use Rattle.mg_keys.specs.Meaning.{Meaning, whole, beginning, is_cancel, inserted_character, insertion_meaning, meaning_of_keys, plain_meaning}

ne : (a b : ℕ) → a < b → nat_eq a b ≡ false
ne a b h = grind (arith, nat_tests)

en : (a b : ℕ) → a < b → nat_eq b a ≡ false
en a b h = grind (arith, nat_tests)

and_false : (x : Bool) → (x && false) ≡ false
and_false true = refl
and_false false = refl

-- the first key is one of ASCII
low : List ℕ → Bool
low [] = false
low (k ∷ ks) = nat_lt k 128

all_low : List Row → Bool
all_low [] = true
all_low (r ∷ rs) = low r.keys && all_low rs

same_low : (keys : List ℕ) (b : ℕ) (rest : List ℕ) → 128 ≤ b → low keys ≡ true → same_keys keys (b ∷ rest) ≡ false
unfolding low
same_low [] b rest h l = refl
same_low (k ∷ ks) b rest h l = let small = ltb-true k 128 l in rw (ne k b (omega arith)) refl

begins_low : (keys : List ℕ) (b : ℕ) (rest : List ℕ) → 128 ≤ b → low keys ≡ true → begins (b ∷ rest) keys ≡ false
unfolding low
begins_low [] b rest h l = refl
begins_low (k ∷ ks) b rest h l = let small = ltb-true k 128 l in rw (en k b (omega arith)) (and_false (begins rest ks))

none_named : (rs : List Row) (b : ℕ) (rest : List ℕ) → 128 ≤ b → all_low rs ≡ true → first_with rs (b ∷ rest) ≡ None
unfolding all_low
none_named [] b rest h l = refl
none_named (r ∷ rs) b rest h l =
    rw (same_low r.keys b rest h (and_parts (low r.keys) (all_low rs) l).0) (none_named rs b rest h (and_parts (low r.keys) (all_low rs) l).1)

none_begun : (rs : List Row) (b : ℕ) (rest : List ℕ) → 128 ≤ b → all_low rs ≡ true → list_any (λ r. begins (b ∷ rest) r.keys) rs ≡ false
unfolding all_low
none_begun [] b rest h l = refl
none_begun (r ∷ rs) b rest h l =
    rw (begins_low r.keys b rest h (and_parts (low r.keys) (all_low rs) l).0) (none_begun rs b rest h (and_parts (low r.keys) (all_low rs) l).1)

rows_low : all_low rows ≡ true
unfolding all_low low
rows_low = refl

no_argument : (a : Argument) (b : ℕ) → 128 ≤ b → with_byte a b ≡ None
no_argument a b h = rw (en 21 b (omega arith)) (rw (le-leb 48 b (omega arith)) (rw (lt-leb b 57 (omega arith)) refl))

not_cancel : (b : ℕ) (rest : List ℕ) → 128 ≤ b → is_cancel (b ∷ rest) ≡ false
not_cancel b rest h = rw (ne 7 b (omega arith)) (rw (ne 27 b (omega arith)) (rw (ne 24 b (omega arith)) refl))

inserted_high : (b : ℕ) (rest : List ℕ) → 128 ≤ b → inserted_character (b ∷ rest) ≡ multibyte_character b rest
inserted_high b rest h =
    rw (en 17 b (omega arith)) (rw (en 9 b (omega arith)) (rw (le-leb 32 b (omega arith)) (rw (lt-leb b 126 (omega arith)) (rw (le-leb 128 b h) refl))))

high_keys : (n b : ℕ) (rest : List ℕ) → 128 ≤ b → meaning_of_keys n (b ∷ rest) ≡ insertion_meaning n (multibyte_character b rest)
high_keys n b rest h =
    let none : bound (b ∷ rest) ≡ None = none_named rows b rest h rows_low in
    let no : begins_some (b ∷ rest) ≡ false = none_begun rows b rest h rows_low in
    let last : Bool → Meaning = λ t. if t then beginning else insertion_meaning n (inserted_character (b ∷ rest)) in
    let named : Option KeyCommand → Meaning = λ o. elim o [ Some x ↦ whole (step_of x n) | None ↦ last (begins_some (b ∷ rest)) ] in
    let cancel : Bool → Meaning = λ t. if t then whole step.Cancel else named (bound (b ∷ rest)) in
    let e1 : meaning_of_keys n (b ∷ rest) ≡ named (bound (b ∷ rest)) = ap cancel (not_cancel b rest h) in
    e1 ∙ ap named none ∙ ap last no ∙ ap (insertion_meaning n) (inserted_high b rest h)

-- a byte that is none of ASCII begins a character that is inserted
pub high_meaning : (a : Argument) (b : ℕ) (rest : List ℕ) → 128 ≤ b → plain_meaning a (b ∷ rest) ≡ insertion_meaning (value a) (multibyte_character b rest)
high_meaning a b rest h = grind (arith, no_argument, high_keys)
