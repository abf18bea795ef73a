-- What one byte makes of what further bytes meant.
use Rattle.std.specs.Prelude.{◌≡◌, ℕ, List, [], ◌∷◌}
use Rattle.mg_keys.specs.declared.sequence.Advance.{Advance}
use Rattle.mg_keys.specs.declared.sequence.Advance.TheVariants.{Whole, On, Nothing}
use Rattle.mg_keys.specs.declared.step.Mode.{Mode}
use Rattle.mg_keys.specs.declared.utf8.Read.{Read}
use Rattle.mg_keys.specs.declared.utf8.Read.TheVariants as read
use Rattle.mg_keys.specs.Utf8.{Utf8Reading, is, begins, neither, reading_behind}
use Rattle.mg_keys.specs.Meaning.{Meaning, whole, beginning, no_key, itself}
use Rattle.mg_keys.specs.Begun.{KeyState, plain_rest, text_rest, rest_meaning}

-- of a character
abbrev pub ReadsOn : (List ℕ → Utf8Reading) → ℕ → Read → Type 0
ReadsOn f byte (read.Character c) = f (byte ∷ []) ≡ is c
ReadsOn f byte (read.More begun) = (f (byte ∷ []) ≡ begins) × ((rest : List ℕ) → f (byte ∷ rest) ≡ reading_behind begun rest)
ReadsOn f byte read.Nothing = f (byte ∷ []) ≡ neither

abbrev pub by_itself : List ℕ → Utf8Reading
by_itself [] = begins
by_itself (b ∷ bs) = itself b bs

-- of a key sequence, in mode Plain
abbrev pub PlainAdvances : (List ℕ → Meaning) → ℕ → Advance → Type 0
PlainAdvances f byte (Whole s) = f (byte ∷ []) ≡ whole s
PlainAdvances f byte (On a sequence) = (f (byte ∷ []) ≡ beginning) × ((rest : List ℕ) → f (byte ∷ rest) ≡ plain_rest a sequence rest)
PlainAdvances f byte Nothing = f (byte ∷ []) ≡ no_key

-- where characters are typed into a prompt
abbrev pub TextAdvances : Mode → (List ℕ → Meaning) → ℕ → Advance → Type 0
TextAdvances m f byte (Whole s) = f (byte ∷ []) ≡ whole s
TextAdvances m f byte (On a sequence) = (f (byte ∷ []) ≡ beginning) × ((rest : List ℕ) → f (byte ∷ rest) ≡ text_rest m sequence rest)
TextAdvances m f byte Nothing = f (byte ∷ []) ≡ no_key

-- of the keys, in any mode
abbrev pub Advances : KeyState → ℕ → Advance → Type 0
Advances keys byte (Whole s) = rest_meaning keys (byte ∷ []) ≡ whole s
Advances keys byte (On a sequence) =
    (rest_meaning keys (byte ∷ []) ≡ beginning)
    × ((rest : List ℕ) → rest_meaning keys (byte ∷ rest) ≡ rest_meaning (record keys { argument = a; sequence = sequence }) rest)
Advances keys byte Nothing = rest_meaning keys (byte ∷ []) ≡ no_key
