-- Keys and reports as they are written.
use Rattle.std.specs.Prelude.{◌≢◌, ◌≤◌, ℕ, List, [], ◌∷◌, ◌++◌, length, map, ⊤}
use Rattle.mg_events.specs.Reading.{Told, key, report, refused}

-- the byte that begins a report, its line, and a newline
abbrev pub written : List ℕ → List ℕ
written line = 255 ∷ (line ++ 10 ∷ [])

-- all as keys
abbrev pub keys : List ℕ → List Told
keys bytes = map key bytes

-- no byte begins a report
abbrev pub AreKeys : List ℕ → Type 0
AreKeys [] = ⊤
AreKeys (b ∷ bs) = (b ≢ 255) × AreKeys bs

-- no byte ends a report
abbrev pub IsOneLine : List ℕ → Type 0
IsOneLine [] = ⊤
IsOneLine (b ∷ bs) = (b ≢ 10) × IsOneLine bs

-- a key, or a report that is not too long, as it is written
abbrev pub piece : Told → List ℕ
piece (key b) = b ∷ []
piece (report line) = written line
piece (refused fault) = []

abbrev pub IsPiece : Told → Type 0
IsPiece (key b) = b ≢ 255
IsPiece (report line) = IsOneLine line × (length line ≤ 65536)
IsPiece (refused fault) = ⊥

-- keys and reports in any order
abbrev pub stream : List Told → List ℕ
stream [] = []
stream (t ∷ ts) = piece t ++ stream ts

abbrev pub ArePieces : List Told → Type 0
ArePieces [] = ⊤
ArePieces (t ∷ ts) = IsPiece t × ArePieces ts
