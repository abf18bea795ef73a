-- Kinds of characters, by their codes.
use Rattle.std.specs.Prelude.{ℕ, ◌+◌, ◌-◌, ◌&&◌, ◌||◌, Bool, nat_le, nat_eq, if◌then◌else◌}

abbrev pub newline_character : ℕ
newline_character = 10

abbrev pub space : ℕ
space = 32

abbrev pub is_newline : ℕ → Bool
is_newline c = nat_eq c 10

-- a space or a tab
abbrev pub is_blank : ℕ → Bool
is_blank c = nat_eq c 32 || nat_eq c 9

abbrev pub is_upper : ℕ → Bool
is_upper c = nat_le 65 c && nat_le c 90

abbrev pub is_lower : ℕ → Bool
is_lower c = nat_le 97 c && nat_le c 122

abbrev pub is_digit : ℕ → Bool
is_digit c = nat_le 48 c && nat_le c 57

-- ASCII letters, ASCII digits and every character from U+0080 on
abbrev pub is_word_character : ℕ → Bool
is_word_character c = is_upper c || is_lower c || is_digit c || nat_le 128 c

-- ASCII letters alone change case
abbrev pub upper : ℕ → ℕ
upper c = if is_lower c then c - 32 else c

abbrev pub lower : ℕ → ℕ
lower c = if is_upper c then c + 32 else c
