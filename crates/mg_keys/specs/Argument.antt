-- Arguments, as C-u and digits give them.
use Rattle.std.specs.Prelude.{ℕ, ◌+◌, ◌*◌, ◌-◌, Bool, Option, Some, None, nat_eq, if◌then◌else◌, min}
use Rattle.mg_keys.specs.declared.argument.Argument.{Argument}
use Rattle.mg_keys.specs.declared.argument.Argument.TheVariants.{Absent, Multiplied, Typed}
use Rattle.mg_keys.specs.Bytes.{universal_argument_byte}
use Rattle.mg_keys.specs.Utf8.{is_between}

abbrev pub is_digit_byte : ℕ → Bool
is_digit_byte b = is_between 48 57 b

abbrev pub greatest_argument : ℕ
greatest_argument = 9999

abbrev pub capped : ℕ → ℕ
capped n = min n greatest_argument

-- the first digit behind a C-u replaces what it gave, further ones are appended; without a C-u a digit is a character
abbrev pub with_digit : Argument → ℕ → Option Argument
with_digit Absent d = None
with_digit (Multiplied n) d = Some (Typed d)
with_digit (Typed n) d = Some (Typed (capped (10 * n + d)))

abbrev pub four_times : Argument → Argument
four_times Absent = Multiplied 4
four_times (Multiplied n) = Multiplied (capped (4 * n))
four_times (Typed n) = Multiplied (capped (4 * n))

-- the argument with one byte more of an argument part, if the byte goes on with it
abbrev pub with_byte : Argument → ℕ → Option Argument
with_byte a b = if nat_eq b universal_argument_byte then Some (four_times a) else (if is_digit_byte b then with_digit a (b - 48) else None)

abbrev pub value : Argument → ℕ
value Absent = 1
value (Multiplied n) = n
value (Typed n) = n
