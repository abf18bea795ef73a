-- What the parts of a line say.
use Rattle.rga_lines.proofs.Prelude.{◌≡◌, ℕ, ◌<◌, ◌≤◌, List, ◌∷◌, ◌++◌, length, Some, None, refl, ap, ◌∙◌, arith, IsUtf8, chars, encode_utf8, chars-nil, chars_past_char, IsUtf8-past_char, nil_from_length, only_char, two_numbers}
use Rattle.serde_json.specs.declared.value.Value.{Value}
use Rattle.serde_json.specs.View.{items_view}

-- ---- one character

pub one_char : (bytes rest : List ℕ) (c : ℕ) → IsUtf8 bytes → bytes ≡ encode_utf8 c ++ rest → length rest ≡ 0 → only_char (chars bytes) ≡ Some c
one_char bytes rest c text front last = grind (arith, chars, chars_past_char, nil_from_length, chars-nil, only_char)

pub more_chars : (bytes rest more : List ℕ) (c d : ℕ) → IsUtf8 bytes → bytes ≡ encode_utf8 c ++ rest → rest ≡ encode_utf8 d ++ more → only_char (chars bytes) ≡ None
more_chars bytes rest more c d text front next =
    let e : chars bytes ≡ c ∷ d ∷ chars more = chars_past_char bytes rest c text front ∙ ap (λ (cs : List ℕ). c ∷ cs) (chars_past_char rest more d (IsUtf8-past_char bytes rest c text front) next) in
    ap only_char e

-- ---- two numbers

pub too_few : (values : List Value) → length values < 2 → two_numbers (items_view values) ≡ None
too_few (v ∷ w ∷ values) h = absurd (omega arith)
too_few values h = refl

pub too_many : (values : List Value) → 3 ≤ length values → two_numbers (items_view values) ≡ None
too_many (v ∷ w ∷ u ∷ values) h = refl
too_many values h = absurd (omega arith)
