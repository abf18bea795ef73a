-- Key sequences that have begun.
use Rattle.std.specs.Prelude.{◌≡◌, ℕ, List, [], ◌∷◌, ◌++◌, Bool, true, false, ◌||◌}
use Rattle.mg_keys.specs.declared.argument.Argument.{Argument}
use Rattle.mg_keys.specs.declared.argument.Argument.TheVariants.{Absent, Multiplied, Typed}
use Rattle.mg_keys.specs.Bytes.{quote_byte, control_x_byte, escape_byte}
use Rattle.mg_keys.specs.declared.sequence.Sequence.{Sequence}
use Rattle.mg_keys.specs.declared.sequence.Sequence.TheVariants.{Start, Escape, ControlX, Quote, Character}
use Rattle.mg_keys.specs.declared.step.Mode.{Mode}
use Rattle.mg_keys.specs.declared.step.Mode.TheVariants as mode
use Rattle.mg_keys.specs.declared.step.Step.{Step}
use Rattle.mg_keys.specs.declared.step.Step.TheVariants as step
use Rattle.mg_keys.specs.Argument.{value}
use Rattle.mg_keys.specs.Utf8.{reading_behind}
use Rattle.mg_keys.specs.Meaning.{Meaning, whole, beginning, no_key, meaning, plain_meaning, meaning_of_keys, insertion_meaning, text_meaning, query_meaning}

-- what the keys have read since the last whole sequence
pub record KeyState : Type 0 where
  pub mode : Mode
  pub argument : Argument
  pub sequence : Sequence

-- no sequence has begun, and bytes are read by that mode
abbrev pub fresh : Mode → KeyState
fresh m = record { mode = m; argument = Absent; sequence = Start }

-- what further bytes mean, in mode Plain, behind an argument and the beginning of a sequence
abbrev pub plain_rest : Argument → Sequence → List ℕ → Meaning
plain_rest a Start rest = plain_meaning a rest
plain_rest a Escape rest = meaning_of_keys (value a) (escape_byte ∷ rest)
plain_rest a ControlX rest = meaning_of_keys (value a) (control_x_byte ∷ rest)
plain_rest a Quote rest = meaning_of_keys (value a) (quote_byte ∷ rest)
plain_rest a (Character begun) rest = insertion_meaning (value a) (reading_behind begun rest)

abbrev pub text_rest : Mode → Sequence → List ℕ → Meaning
text_rest m (Character begun) rest = text_meaning (reading_behind begun rest)
text_rest m sequence rest = meaning m rest

-- the same in any mode
abbrev pub rest_meaning : KeyState → List ℕ → Meaning
rest_meaning keys rest = elim keys.mode [
  | mode.Plain ↦ plain_rest keys.argument keys.sequence rest
  | mode.Prompt ↦ text_rest mode.Prompt keys.sequence rest
  | mode.Search ↦ text_rest mode.Search keys.sequence rest
  | mode.Query ↦ query_meaning rest
]

-- the keys stand where these bytes lead, since the last whole sequence: whatever follows means the same
pub record HasBegun (keys : KeyState) (bytes : List ℕ) : Type 0 where
  pub same : (rest : List ℕ) → meaning keys.mode (bytes ++ rest) ≡ rest_meaning keys rest

-- what is answered to a byte, and where the keys then stand
abbrev pub Answers : Meaning → List ℕ → Step → KeyState → Type 0
Answers (whole s) bytes answer keys = (answer ≡ s) × HasBegun keys []
Answers beginning bytes answer keys = (answer ≡ step.Pending) × HasBegun keys bytes
Answers no_key bytes answer keys = (answer ≡ step.Unbound) × HasBegun keys []

-- ---- whether more is wanted

abbrev pub is_given : Argument → Bool
is_given Absent = false
is_given (Multiplied n) = true
is_given (Typed n) = true

abbrev pub is_started : Sequence → Bool
is_started Start = false
is_started Escape = true
is_started ControlX = true
is_started Quote = true
is_started (Character begun) = true

abbrev pub is_character : Sequence → Bool
is_character Start = false
is_character Escape = false
is_character ControlX = false
is_character Quote = false
is_character (Character begun) = true

-- behind an argument part and the beginning of a sequence, in that mode
abbrev pub waits : Mode → Argument → Sequence → Bool
waits mode.Plain a sequence = is_given a || is_started sequence
waits mode.Prompt a sequence = is_character sequence
waits mode.Search a sequence = is_character sequence
waits mode.Query a sequence = false
