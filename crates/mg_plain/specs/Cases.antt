-- Characters that change places, and letters that change case.
use Rattle.std.specs.Prelude.{ℕ, zero, suc, ◌+◌, ◌-◌, List, [], ◌∷◌, length, Result, Ok, Err, if◌then◌else◌, nat_eq, nat_lt}
use Rattle.std.specs.List.{slice_index}
use Rattle.rga_ops.specs.Splice.{Splice}
use Rattle.mg_plain.specs.declared.outcome.Notice.{Notice}
use Rattle.mg_plain.specs.declared.outcome.Notice.TheVariants.{BeginningOfBuffer, EndOfBuffer}
use Rattle.mg_plain.specs.declared.cases.Casing.{Casing}
use Rattle.mg_plain.specs.declared.cases.Casing.TheVariants.{Upper, Lower, Capital}
use Rattle.mg_plain.specs.Scans.{least_from}
use Rattle.mg_plain.specs.Situation.{Situation}
use Rattle.mg_plain.specs.Effect.{Effect, edit_effect}
use Rattle.mg_plain.specs.Splices.{splice}
use Rattle.mg_plain.specs.Characters.{upper, lower}
use Rattle.mg_plain.specs.Words.{word_end, has_word_character}

-- ---- transposition

-- the characters on both sides of point change places; point is carried behind them
abbrev pub transposition : Situation → Effect
transposition s = edit_effect s (splice (s.point - 1) (s.point + 1) (slice_index s.text s.point ∷ slice_index s.text (s.point - 1) ∷ []) ∷ [])

abbrev pub transpose_chars : Situation → Result Effect Notice
transpose_chars s =
    if nat_eq s.point 0 then Err BeginningOfBuffer
    else if nat_eq s.point (length s.text) then Err EndOfBuffer
    else Ok (transposition s)

-- ---- case

-- one splice for each of the `count` characters from `lo` on that becomes another, falling
abbrev pub character_splices : (ℕ → ℕ → ℕ) → List ℕ → ℕ → ℕ → List Splice
character_splices new text lo zero = []
character_splices new text lo (suc count) =
    if nat_eq (new (lo + count) (slice_index text (lo + count))) (slice_index text (lo + count))
    then character_splices new text lo count
    else splice (lo + count) (lo + count + 1) (new (lo + count) (slice_index text (lo + count)) ∷ []) ∷ character_splices new text lo count

-- the first word character from a place on
abbrev pub first_word_character : List ℕ → ℕ → ℕ
first_word_character text q = least_from (has_word_character text) q (length text)

-- what becomes of the character at a place, where the first word character stands at `first`
abbrev pub recased_char : Casing → ℕ → ℕ → ℕ → ℕ
recased_char Upper first i c = upper c
recased_char Lower first i c = lower c
recased_char Capital first i c = if nat_eq i first then upper c else lower c

-- the characters from point up to a place, where point goes
abbrev pub recasing_up_to : Casing → Situation → ℕ → Effect
recasing_up_to casing s q =
    record (edit_effect s (character_splices (recased_char casing (first_word_character s.text s.point)) s.text s.point (q - s.point))) { point = q }

-- from point to where one step forward over words goes
abbrev pub recasing : Casing → Situation → Result Effect Notice
recasing casing s = if nat_lt s.point (length s.text) then Ok (recasing_up_to casing s (word_end s.text s.point)) else Err EndOfBuffer
