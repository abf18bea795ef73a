-- Words, as commands step over them: greatest runs of word characters.
use Rattle.std.specs.Prelude.{ℕ, ◌+◌, ◌-◌, ◌&&◌, ◌||◌, Bool, not, List, length, Option, Some, None, if◌then◌else◌, nat_eq, nat_lt}
use Rattle.std.specs.List.{slice_index}
use Rattle.mg_plain.specs.declared.steps.Direction.{Direction}
use Rattle.mg_plain.specs.declared.steps.Direction.TheVariants.{Forward, Backward}
use Rattle.mg_plain.specs.Scans.{least_from, greatest_up_to}
use Rattle.mg_plain.specs.Characters.{is_word_character}

-- a word character stands there
abbrev pub has_word_character : List ℕ → ℕ → Bool
has_word_character text q = nat_lt q (length text) && is_word_character (slice_index text q)

-- a greatest run of word characters ends there
abbrev pub ends_word : List ℕ → ℕ → Bool
ends_word text q = has_word_character text (q - 1) && not (has_word_character text q)

-- a greatest run of word characters begins there
abbrev pub begins_word : List ℕ → ℕ → Bool
begins_word text q = has_word_character text q && (nat_eq q 0 || not (has_word_character text (q - 1)))

-- the end of the first word that ends behind the place, else the length
abbrev pub word_end : List ℕ → ℕ → ℕ
word_end text q = least_from (ends_word text) (q + 1) (length text)

-- the begin of the last word that begins before the place, else 0
abbrev pub word_begin : List ℕ → ℕ → ℕ
word_begin text q = greatest_up_to (begins_word text) (q - 1)

-- one word on or back; there is none on from the length, and none back from 0
abbrev pub word_step : Direction → List ℕ → ℕ → Option ℕ
word_step Forward text q = if nat_eq q (length text) then None else Some (word_end text q)
word_step Backward text q = if nat_eq q 0 then None else Some (word_begin text q)
