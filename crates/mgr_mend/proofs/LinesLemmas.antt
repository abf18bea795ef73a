-- A log by its first line and what follows, for loops over its lines.
use Rattle.std.proofs.Common.{◌≡◌, ℕ, ◌+◌, ◌<◌, List, [], ◌∷◌, ◌++◌, length, take, drop, Option, Some, None, sym, ap, ap₂, ◌∙◌, arith, append_assoc, append-nil, length-append, length-drop}
use Rattle.std.specs.List.{flat_map}
use Rattle.std.proofs.lemmas.List.{length-take-le, take_at}
use Rattle.memchr.specs.Find.{IsFirstByte, is_byte}
use Rattle.rga_lines.specs.Log.{operations_at}
use Rattle.rga_lines.specs.Stream.{newline, lines_of, rest_of}
use Rattle.rga_lines.proofs.StreamLemmas.{first_line, no_first_line, lines-line, rest-line, lines-none, rest-none, position_is}
use Rattle.mgr_mend.specs.Mending.{all_lines}
use Rattle.mgr_mend.specs.Parts.{count_said}

-- the first line ends before the newline at this index
pub record FirstPart (bytes : List ℕ) (n : ℕ) : Type 0 where
  pub within : n < length bytes
  pub lines : lines_of bytes ≡ take n bytes ∷ lines_of (drop (n + 1) bytes)
  pub rest : rest_of bytes ≡ rest_of (drop (n + 1) bytes)
  pub part : take (n + 1) bytes ≡ take n bytes ++ newline ∷ []

pub first_part : (bytes : List ℕ) (n : ℕ) → IsFirstByte (is_byte newline) bytes (Some n) → FirstPart bytes n
first_part bytes n at =
    let first = first_line bytes n (sym (position_is bytes (Some n) at)) in
    let long : length (take n bytes) ≡ n = length-take-le n bytes (omega (arith, first.within)) in
    let whole : bytes ≡ (take n bytes ++ newline ∷ []) ++ drop (n + 1) bytes = first.parts ∙ sym (append_assoc (take n bytes) (newline ∷ []) (drop (n + 1) bytes)) in
    let ends : length (take n bytes ++ newline ∷ []) ≡ n + 1 = length-append (take n bytes) (newline ∷ []) ∙ ap (λ (k : ℕ). k + 1) long in
    record {
      within = first.within;
      lines = ap lines_of first.parts ∙ lines-line (take n bytes) (drop (n + 1) bytes) first.none;
      rest = ap rest_of first.parts ∙ rest-line (take n bytes) (drop (n + 1) bytes) first.none;
      part = ap (take (n + 1)) whole ∙ take_at (take n bytes ++ newline ∷ []) (drop (n + 1) bytes) (n + 1) ends;
    }

pub all_lines-first : (bytes : List ℕ) (n : ℕ) → FirstPart bytes n → all_lines bytes ≡ take n bytes ∷ all_lines (drop (n + 1) bytes)
all_lines-first bytes n first = ap₂ (λ (ls : List (List ℕ)) (r : List ℕ). ls ++ r ∷ []) first.lines first.rest

-- there is no newline
pub no_lines : (bytes : List ℕ) → IsFirstByte (is_byte newline) bytes None → lines_of bytes ≡ []
no_lines bytes at = lines-none bytes (no_first_line bytes (sym (position_is bytes None at)))

pub only_rest : (bytes : List ℕ) → IsFirstByte (is_byte newline) bytes None → rest_of bytes ≡ bytes
only_rest bytes at = rest-none bytes (no_first_line bytes (sym (position_is bytes None at)))

pub all_lines-only : (bytes : List ℕ) → IsFirstByte (is_byte newline) bytes None → all_lines bytes ≡ bytes ∷ []
all_lines-only bytes at = ap₂ (λ (ls : List (List ℕ)) (r : List ℕ). ls ++ r ∷ []) (no_lines bytes at) (only_rest bytes at)

pub shorter : (bytes : List ℕ) (n : ℕ) → FirstPart bytes n → length (drop (n + 1) bytes) < length bytes
shorter bytes n first = omega (arith, first.within, length-drop (n + 1) bytes)

-- ---- what is gathered of all lines, when one more is

-- how many operations a line has, as a list
abbrev pub count_line : List ℕ → List (Option ℕ)
count_line bytes = count_said (operations_at bytes) ∷ []

pub gathers_line : {A : Type 0} (f : List ℕ → List A) (done new all : List A) (rest line behind : List ℕ) (n : ℕ) → FirstPart rest n → line ≡ take n rest → behind ≡ drop (n + 1) rest → new ≡ done ++ f line
    → done ++ flat_map f (all_lines rest) ≡ all → new ++ flat_map f (all_lines behind) ≡ all
gathers_line {A} f done new all rest line behind n first front back more sofar =
    ap₂ (λ (xs : List A) (b : List ℕ). xs ++ flat_map f (all_lines b)) (more ∙ ap (λ (l : List ℕ). done ++ f l) front) back
    ∙ append_assoc done (f (take n rest)) (flat_map f (all_lines (drop (n + 1) rest)))
    ∙ ap (λ (ls : List (List ℕ)). done ++ flat_map f ls) (sym (all_lines-first rest n first)) ∙ sofar

pub gathers_rest : {A : Type 0} (f : List ℕ → List A) (done new all : List A) (rest : List ℕ) → all_lines rest ≡ rest ∷ [] → new ≡ done ++ f rest → done ++ flat_map f (all_lines rest) ≡ all → new ≡ all
gathers_rest {A} f done new all rest only more sofar =
    more ∙ ap (λ (xs : List A). done ++ xs) (sym (append-nil (f rest))) ∙ ap (λ (ls : List (List ℕ)). done ++ flat_map f ls) (sym only) ∙ sofar
