-- Who wrote a text: its characters with the replicas that wrote them, and the pieces that these make.
use Rattle.std.specs.Prelude.{◌==◌, ℕ, ◌+◌, Bool, List, [], ◌∷◌, ◌++◌, map, filter, not, if◌then◌else◌, Option, codes, decimal, encode_utf8_all}
use Rattle.std.specs.Option.{option_map}
use Rattle.std.specs.List.{filter_map, flat_map, join_with_byte}
use Rattle.std.specs.Ordering.{nat_cmp}
use Rattle.std.specs.BTreeSet.{insert_key}
use Rattle.serde_json.specs.Data.{Data, number, unsigned, string, object, member, no_members}
use Rattle.serde_json.specs.Written.{compact_text}
use Rattle.rga_ops.specs.Identifier.{Identifier}
use Rattle.rga_ops.specs.Content.{Content}
use Rattle.rga_ops.specs.Order.{order, shown}

-- ---- characters

-- a replica, and a character that it wrote
abbrev pub Authored : Type 0
Authored = ℕ × ℕ

-- the character of an element that is not deleted, with the replica of its identifier
abbrev pub authored_of : Content → Identifier → Option Authored
authored_of c id = option_map (λ ch. (id.replica, ch)) (shown c id)

-- the characters of a text in order, each with the replica that wrote it
abbrev pub authored : Content → List Authored
authored c = filter_map (authored_of c) (order c)

abbrev pub characters : List Authored → List ℕ
characters xs = map (λ x. x.1) xs

-- ---- pieces

-- characters, one after the other, that one replica wrote
pub record Piece : Type 0 where
  pub replica : ℕ
  pub chars : List ℕ

abbrev pub piece : ℕ → List ℕ → Piece
piece replica chars = record { replica = replica; chars = chars }

-- a character before pieces: it joins the first one, if that is of the same replica
abbrev pub before_pieces : Authored → List Piece → List Piece
before_pieces x [] = piece x.0 (x.1 ∷ []) ∷ []
before_pieces x (p ∷ ps) = if p.replica == x.0 then piece x.0 (x.1 ∷ p.chars) ∷ ps else piece x.0 (x.1 ∷ []) ∷ p ∷ ps

-- the pieces of a text, of which no two neighbours are of one replica
abbrev pub pieces : List Authored → List Piece
pieces [] = []
pieces (x ∷ xs) = before_pieces x (pieces xs)

-- a piece as a value of JSON, as its text, and as a line
abbrev pub piece_data : Piece → Data
piece_data p = object (member (codes "replica") (number (unsigned p.replica)) (member (codes "text") (string (encode_utf8_all p.chars)) no_members))

unfoldable pub piece_text : Piece → List ℕ
piece_text p = compact_text (piece_data p)

unfoldable pub piece_line : Piece → List ℕ
piece_line p = piece_text p ++ 10 ∷ []

-- ---- lines

-- a character before lines: a newline ends a line by itself, and any other begins the first one
abbrev pub before_lines : Authored → List (List Authored) → List (List Authored)
before_lines x [] = (x ∷ []) ∷ []
before_lines x (l ∷ ls) = if x.1 == 10 then (x ∷ []) ∷ l ∷ ls else (x ∷ l) ∷ ls

-- the lines of a text, each with the newline that ends it; the last one may have none
abbrev pub authored_lines : List Authored → List (List Authored)
authored_lines [] = []
authored_lines (x ∷ xs) = before_lines x (authored_lines xs)

-- how many characters the first line has, with its newline
abbrev pub length_of_line : List Authored → ℕ
length_of_line [] = 0
length_of_line (x ∷ xs) = if x.1 == 10 then 1 else 1 + length_of_line xs

-- these replicas and those of the characters, rising and each once
abbrev pub and_writers : List ℕ → List Authored → List ℕ
and_writers ns [] = ns
and_writers ns (x ∷ xs) = and_writers (insert_key nat_cmp ns x.0) xs

abbrev pub writers : List Authored → List ℕ
writers xs = and_writers [] xs

abbrev pub without_newline : List ℕ → List ℕ
without_newline chars = filter (λ ch. not (ch == 10)) chars

-- a line as it is written: who wrote in it, a tab, its characters and a newline
unfoldable pub line_of : List Authored → List ℕ
line_of xs = join_with_byte 44 (map decimal (writers xs)) ++ 9 ∷ (encode_utf8_all (without_newline (characters xs)) ++ 10 ∷ [])

-- ---- the whole

-- what is written of a content: its lines, or its pieces
unfoldable pub authors_bytes : Bool → Content → List ℕ
authors_bytes by_lines c =
    if by_lines then flat_map line_of (authored_lines (authored c)) else flat_map piece_line (pieces (authored c))
