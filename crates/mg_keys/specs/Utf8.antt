-- Characters, byte by byte (The Unicode Standard, table 3-7: well-formed UTF-8 byte sequences).
use Rattle.std.specs.Prelude.{ℕ, ◌+◌, ◌-◌, ◌*◌, List, [], ◌∷◌, Bool, Option, Some, None, nat_eq, nat_le, nat_lt, min, ◌&&◌, ◌||◌, if◌then◌else◌}
use Rattle.mg_keys.specs.declared.utf8.Continuation.{Continuation}

abbrev pub is_between : ℕ → ℕ → ℕ → Bool
is_between low high b = nat_le low b && nat_le b high

abbrev pub continuation : ℕ → ℕ → ℕ → ℕ → Continuation
continuation count bits low high = record { count = count; bits = bits; low = low; high = high }

-- by the first byte: how many bytes are to come, the bits of the first one, and between which bounds the second stands
abbrev pub first_byte : ℕ → Option Continuation
first_byte b =
    if is_between 194 223 b then Some (continuation 1 (b - 192) 128 191) else (
    if nat_eq b 224 then Some (continuation 2 0 160 191) else (
    if nat_eq b 237 then Some (continuation 2 13 128 159) else (
    if is_between 225 239 b then Some (continuation 2 (b - 224) 128 191) else (
    if nat_eq b 240 then Some (continuation 3 0 144 191) else (
    if is_between 241 243 b then Some (continuation 3 (b - 240) 128 191) else (
    if nat_eq b 244 then Some (continuation 3 4 128 143) else None))))))

-- what bytes are: a character, a proper beginning of one, or neither
pub data Utf8Reading : Type 0 where
  is : ℕ → Utf8Reading
  begins : Utf8Reading
  neither : Utf8Reading

abbrev pub is_scalar : ℕ → Bool
is_scalar c = nat_lt c 55296 || (nat_le 57344 c && nat_lt c 1114112)

-- the bits with those of one byte more
abbrev pub joined_bits : Continuation → ℕ → ℕ
joined_bits begun b = min (begun.bits * 64 + (b - 128)) 4294967295

-- a character whose last byte has come, if nothing follows
abbrev pub ended_character : ℕ → List ℕ → Utf8Reading
ended_character c [] = if is_scalar c then is c else neither
ended_character c (b ∷ bs) = neither

-- what the bytes behind a beginning make of it
abbrev pub reading_behind : Continuation → List ℕ → Utf8Reading
reading_behind begun [] = begins
reading_behind begun (b ∷ bs) =
    if is_between begun.low begun.high b
    then (if nat_le begun.count 1 then ended_character (joined_bits begun b) bs else reading_behind (continuation (begun.count - 1) (joined_bits begun b) 128 191) bs)
    else neither

-- what bytes are, the first of which is none of ASCII
abbrev pub multibyte_character : ℕ → List ℕ → Utf8Reading
multibyte_character b bs = elim (first_byte b) [ Some begun ↦ reading_behind begun bs | None ↦ neither ]

abbrev pub characters : List ℕ → Utf8Reading
characters [] = begins
characters (b ∷ bs) = multibyte_character b bs
