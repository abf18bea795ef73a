-- How an operation, a run, or the head or the end of an exchange is spelled where nothing is left open: no blanks, and
-- the members by their names.
use Rattle.std.specs.Prelude.{◌≡◌, ℕ, ◌/◌, ◌%◌, List, [], ◌∷◌, ◌++◌, ◌||◌, ◌==◌, nat_lt, if◌then◌else◌, codes, decimal, Ok}
use Rattle.std.specs.Char.{digit_char, encode_utf8, IsScalar}
use Rattle.std.specs.List.{flat_map, AllByRecursion}
use Rattle.rga_ops.specs.Identifier.{Identifier}
use Rattle.rga_ops.specs.Operation.{checked}
use Rattle.rga_ops.specs.declared.op.Op.{Op}
use Rattle.rga_ops.specs.declared.op.Op.TheVariants.{Insert, Delete}
pub use Rattle.rga_lines.specs.Table.{IsElement, IsElementOrRoot}
use Rattle.rga_lines.specs.Runs.{Stretch, IsRun, run_operations}
use Rattle.rga_lines.specs.declared.deletion_run.DeletionRun.{DeletionRun}

-- a character below a space by four hexadecimal digits
abbrev pub code_escape : ℕ → List ℕ
code_escape c = codes "\\u00" ++ digit_char (c / 16) ∷ digit_char (c % 16) ∷ []

-- What stands between the quotes for a character: a short escape, four hexadecimal digits below a space, and else the
-- character in UTF-8.
unfoldable pub escaped : ℕ → List ℕ
escaped c =
    if c == 34 || c == 92 then 92 ∷ c ∷ []
    else (if c == 8 then codes "\\b"
    else (if c == 9 then codes "\\t"
    else (if c == 10 then codes "\\n"
    else (if c == 12 then codes "\\f"
    else (if c == 13 then codes "\\r"
    else (if nat_lt c 32 then code_escape c
    else encode_utf8 c))))))

-- the bytes begin with a character as it stands between quotes, and then the rest
abbrev pub BeginsWithCharacter : List ℕ → ℕ → List ℕ → Type 0
BeginsWithCharacter bytes ch rest = (bytes ≡ escaped ch ++ rest) × IsScalar ch

abbrev pub pair_text : Identifier → List ℕ
pair_text id = codes "[" ++ (decimal id.counter ++ (codes "," ++ (decimal id.replica ++ codes "]")))

-- the bytes are these ones, an identifier and then the rest
abbrev pub BeginsWithIdentifier : List ℕ → List ℕ → Identifier → List ℕ → Type 0
BeginsWithIdentifier bytes literal id rest = (bytes ≡ literal ++ (pair_text id ++ rest)) × IsElementOrRoot id

-- the line of an operation, without its newline
unfoldable pub line : Op → List ℕ
line (Insert id parent ch) =
    codes "{\"char\":\"" ++ (escaped ch
    ++ (codes "\",\"id\":" ++ (pair_text id
    ++ (codes ",\"op\":\"ins\",\"parent\":" ++ (pair_text parent
    ++ codes "}")))))
line (Delete id) = codes "{\"id\":" ++ (pair_text id ++ codes ",\"op\":\"del\"}")

-- the line that ends an exchange of so many operations, without its newline
unfoldable pub end_line : ℕ → List ℕ
end_line operations = codes "{\"count\":" ++ (decimal operations ++ codes ",\"op\":\"end\"}")

-- the identifiers are those of elements, or the parent is the root, and the character is a Unicode scalar value
abbrev pub IsWritable : Op → Type 0
IsWritable (Insert id parent ch) = IsElement id × IsElementOrRoot parent × IsScalar ch
IsWritable (Delete id) = IsElement id

-- the bytes begin with the line of an operation that can be written and is well-formed, and then the rest
pub record BeginsWithLine (bytes : List ℕ) (op : Op) (rest : List ℕ) : Type 0 where
  pub parts : bytes ≡ line op ++ rest
  pub writable : IsWritable op
  pub ok : checked op ≡ Ok tt

-- the line that begins an exchange, without its newline
unfoldable pub head_line : List ℕ
head_line = codes "{\"op\":\"head\",\"version\":2}"

-- ---- runs

-- the line of a run up to the quote that opens its text, and then the rest
abbrev pub run_from : Identifier → Identifier → List ℕ → List ℕ
run_from id parent rest =
    codes "{\"id\":" ++ (pair_text id
    ++ (codes ",\"op\":\"run\",\"parent\":" ++ (pair_text parent
    ++ (codes ",\"text\":\"" ++ rest))))

-- the line of a run, without its newline
unfoldable pub run_line : Stretch → List ℕ
run_line r = run_from r.id r.parent (flat_map escaped r.chars ++ codes "\"}")

-- a run whose identifiers are those of elements, or the parent the root, and whose characters are Unicode scalar values
pub record IsWritableRun (r : Stretch) : Type 0 where
  pub id : IsElement r.id
  pub parent : IsElementOrRoot r.parent
  pub scalars : AllByRecursion IsScalar r.chars
  pub run : IsRun r

-- the bytes are characters as they stand between quotes, up to the end of a run's line, and these are their insertions
pub record ReadsInsertions (id parent : Identifier) (bytes : List ℕ) (ops : List Op) : Type 0 where
  pub chars : List ℕ
  pub parts : bytes ≡ flat_map escaped chars ++ codes "\"}"
  pub scalars : AllByRecursion IsScalar chars
  pub insertions : ops ≡ run_operations id parent chars

-- the line of a run of deletions, without its newline
unfoldable pub deletion_run_line : DeletionRun → List ℕ
deletion_run_line r =
    codes "{\"count\":" ++ (decimal r.count ++ (codes ",\"id\":" ++ (pair_text r.id ++ codes ",\"op\":\"dels\"}")))
