-- A stream of bytes as lines, and a splitter that finds them.
use Rattle.std.specs.Prelude.{◌≡◌, ◌≢◌, ℕ, ◌+◌, ◌<◌, ◌≤◌, ◌==◌, Bool, true, false, nat_lt, if◌then◌else◌, List, [], ◌∷◌, ◌++◌, length, take, drop, All, Option, Some, None, Result, Ok, Err, refl}
use Rattle.std.specs.List.{flat_map}
use Rattle.std.specs.Coded.{Coded, code_by, coded×, coded_list, coded_ℕ, coded_bool}
use Rattle.rga_lines.specs.Table.{longest_line}
use Rattle.rga_lines.specs.declared.fault.LineFault.{LineFault}
use Rattle.rga_lines.specs.declared.fault.LineFault.TheVariants as fault

abbrev pub newline : ℕ
newline = 10

-- ---- lines and rest

-- A byte in front of a stream that has these lines and this rest belongs to the first line, or where there is no line
-- to the rest.
abbrev pub to_first_line : ℕ → List (List ℕ) → List (List ℕ)
to_first_line b [] = []
to_first_line b (line ∷ lines) = (b ∷ line) ∷ lines

abbrev pub to_rest : ℕ → List (List ℕ) → List ℕ → List ℕ
to_rest b [] rest = b ∷ rest
to_rest b (line ∷ lines) rest = rest

-- the greatest parts without a newline that a newline ends, in order
abbrev pub lines_of : List ℕ → List (List ℕ)
lines_of [] = []
lines_of (b ∷ bytes) =
    if b == newline then [] ∷ lines_of bytes else to_first_line b (lines_of bytes)

-- what follows the last newline
abbrev pub rest_of : List ℕ → List ℕ
rest_of [] = []
rest_of (b ∷ bytes) =
    if b == newline then rest_of bytes else to_rest b (lines_of bytes) (rest_of bytes)

abbrev pub HasNoNewline : List ℕ → Type 0
HasNoNewline bytes = All (λ b. b ≢ newline) bytes

-- the lines in a row, each with the newline that ends it
abbrev pub bytes_of_lines : List (List ℕ) → List ℕ
bytes_of_lines lines = flat_map (λ line. line ++ newline ∷ []) lines

-- the stream is these lines, each ended by a newline, and then this rest, with no other newline
pub record IsCut (bytes : List ℕ) (lines : List (List ℕ)) (rest : List ℕ) : Type 0 where
  pub whole : bytes ≡ bytes_of_lines lines ++ rest
  pub lines_have_none : All HasNoNewline lines
  pub rest_has_none : HasNoNewline rest

-- the first of the lines, or where there is none the rest, has too many bytes
abbrev pub BeginsLong : List (List ℕ) → List ℕ → Type 0
BeginsLong [] rest = longest_line < length rest
BeginsLong (line ∷ lines) rest = longest_line < length line

-- ---- a splitter

pub record Splitting : Type 0 where
  -- what was fed and is not yet given
  pub waiting : List ℕ
  -- a line was too long
  pub broken : Bool

-- a splitting is stored as the pair of its fields
abbrev pub splitting_code : Coded Splitting
splitting_code =
    code_by (List ℕ × Bool) (coded× (coded_list coded_ℕ) coded_bool)
    (λ s. (s.waiting, s.broken))
    (λ p. record { waiting = p.0; broken = p.1 })
    (λ _. refl)

-- what a splitter keeps true of its buffer, of its length, of the index before which all was given, and of how many
-- bytes from there were searched
pub record IsKept (buffer : List ℕ) (len start searched : ℕ) (broken : Bool) : Type 0 where
  pub within : start + searched ≤ len
  pub none : HasNoNewline (take searched (drop start buffer))
  pub empty : broken ≡ true → buffer ≡ []

abbrev pub splitting_with : List ℕ → Splitting
splitting_with waiting = record { waiting = waiting; broken = false }

abbrev pub gave_up : Splitting
gave_up = record { waiting = []; broken = true }

-- what is fed after a line that was too long is not kept
abbrev pub fed : List ℕ → Splitting → Splitting
fed piece s = if s.broken then s else splitting_with (s.waiting ++ piece)

-- a line, or none where no whole one waits, or a fault
abbrev pub Answer : Type 0
Answer = Result (Option (List ℕ)) LineFault

-- by the lines of what waits: all of it is the rest where there is none
abbrev pub next_of_lines : List ℕ → List (List ℕ) → Answer × Splitting
next_of_lines waiting [] =
    if nat_lt longest_line (length waiting) then (Err fault.Long, gave_up)
    else (Ok None, splitting_with waiting)
next_of_lines waiting (line ∷ lines) =
    if nat_lt longest_line (length line) then (Err fault.Long, gave_up)
    else (Ok (Some line), splitting_with (drop (length line + 1) waiting))

-- what the next line is, and what is left
abbrev pub next_of : Splitting → Answer × Splitting
next_of s = if s.broken then (Err fault.Long, s) else next_of_lines s.waiting (lines_of s.waiting)

-- the next line is what waits before this index, and what waits behind it is left
pub record EndsNextLine (s : Splitting) (end : ℕ) : Type 0 where
  pub within : end < length s.waiting
  pub next : next_of s ≡ (Ok (Some (take end s.waiting)), splitting_with (drop (end + 1) s.waiting))

-- ---- many calls; one that finds no memory changes nothing, and is left out

pub data StreamCall : Type 0 where
  Feed : List ℕ → StreamCall
  Next : StreamCall

abbrev pub after_calls : Splitting → List StreamCall → Splitting
after_calls s [] = s
after_calls s (Feed piece ∷ calls) = after_calls (fed piece s) calls
after_calls s (Next ∷ calls) = after_calls (next_of s).1 calls

abbrev pub line_in : Answer → List (List ℕ)
line_in (Ok (Some line)) = line ∷ []
line_in (Ok None) = []
line_in (Err e) = []

abbrev pub lines_given : Splitting → List StreamCall → List (List ℕ)
lines_given s [] = []
lines_given s (Feed piece ∷ calls) = lines_given (fed piece s) calls
lines_given s (Next ∷ calls) = line_in (next_of s).0 ++ lines_given (next_of s).1 calls

abbrev pub bytes_fed : List StreamCall → List ℕ
bytes_fed [] = []
bytes_fed (Feed piece ∷ calls) = piece ++ bytes_fed calls
bytes_fed (Next ∷ calls) = bytes_fed calls
