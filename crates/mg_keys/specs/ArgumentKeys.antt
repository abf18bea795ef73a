-- The keys of an argument, as they are typed.
use Rattle.std.specs.Prelude.{◌≡◌, ◌≢◌, ◌⊎◌, ℕ, zero, suc, ◌<◌, ◌≤◌, ⊤, List, [], ◌∷◌}
use Rattle.std.specs.Char.{digit_value}
use Rattle.mg_keys.specs.Bytes.{universal_argument_byte}

-- C-u so many times
abbrev pub universals : ℕ → List ℕ
universals zero = []
universals (suc k) = universal_argument_byte ∷ universals k

abbrev pub IsDigit : ℕ → Type 0
IsDigit key = digit_value key < 10

-- a key that goes on with no argument
pub record EndsArgument (key : ℕ) : Type 0 where
  pub no_universal : key ≢ universal_argument_byte
  pub no_digit : 10 ≤ digit_value key

-- each is C-u or a digit
abbrev pub AreArgumentKeys : List ℕ → Type 0
AreArgumentKeys [] = ⊤
AreArgumentKeys (k ∷ ks) = ((k ≡ universal_argument_byte) ⊎ IsDigit k) × AreArgumentKeys ks

-- nothing, or C-u and what goes on with it
abbrev pub IsArgumentPart : List ℕ → Type 0
IsArgumentPart [] = ⊤
IsArgumentPart (k ∷ ks) = (k ≡ universal_argument_byte) × AreArgumentKeys ks
