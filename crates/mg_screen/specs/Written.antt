-- Strings, as the characters that were written.
use Rattle.std.specs.Prelude.{◌≡◌, ℕ, List, ◌++◌, map, string_bytes, encode_utf8_all}
use Rattle.std.specs.declared.alloc.Global.{Global}
use Rattle.std.specs.declared.string.String.{String}

-- a string has these characters
abbrev pub Spells : List ℕ → String Global → Type 0
Spells characters row = string_bytes row ≡ encode_utf8_all characters

-- these characters more stand at the end of a string
abbrev pub AddsCharacters : List ℕ → String Global → String Global → Type 0
AddsCharacters characters old new = string_bytes new ≡ string_bytes old ++ encode_utf8_all characters

-- rows of characters, as UTF-8
abbrev pub utf8 : List (List ℕ) → List (List ℕ)
utf8 rows = map encode_utf8_all rows

-- strings are these rows
abbrev pub SpellRows : List (List ℕ) → List (String Global) → Type 0
SpellRows rows strings = map string_bytes strings ≡ utf8 rows

-- these rows more stand at the end of a list of strings
abbrev pub AddsRows : List (List ℕ) → List (String Global) → List (String Global) → Type 0
AddsRows rows old new = map string_bytes new ≡ map string_bytes old ++ utf8 rows
