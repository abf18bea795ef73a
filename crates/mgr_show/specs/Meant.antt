-- What pieces, lines and tallies are, whichever way they are found.
use Rattle.std.specs.Prelude.{◌≡◌, ◌≢◌, ◌<◌, ◌⊎◌, ◌==◌, ℕ, List, [], ◌∷◌, map, filter, length, Option, Some, None}
use Rattle.std.specs.List.{flat_map, AllByRecursion}
use Rattle.std.specs.FinMap as finite_map
use Rattle.rga_ops.specs.Identifier.{Identifier}
use Rattle.rga_ops.specs.Content.{Content, greatest}
use Rattle.mgr_show.specs.Authors.{Authored, Piece}
use Rattle.mgr_show.specs.Tallies.{tally}
use Rattle.mgr_show.specs.declared.tallies.Tally.{Tally}

-- ---- pieces

-- the characters of a piece, each with its replica
abbrev pub authored_in : Piece → List Authored
authored_in p = map (λ ch. (p.replica, ch)) p.chars

-- neighbours are of two replicas
abbrev pub Differ : List Piece → Type 0
Differ [] = Unit {0}
Differ (p ∷ []) = Unit {0}
Differ (p ∷ q ∷ ps) = (p.replica ≢ q.replica) × Differ (q ∷ ps)

-- the pieces have these characters and no others; none is empty, and neighbours are of two replicas
pub record ArePieces (xs : List Authored) (ps : List Piece) : Type 0 where
  pub whole : flat_map authored_in ps ≡ xs
  pub filled : AllByRecursion (λ (p : Piece). 0 < length p.chars) ps
  pub differ : Differ ps

-- ---- lines

-- a newline ends it, and stands nowhere else in it
abbrev pub IsEnded : List Authored → Type 0
IsEnded [] = ⊥
IsEnded (x ∷ []) = x.1 ≡ 10
IsEnded (x ∷ y ∷ xs) = (x.1 ≢ 10) × IsEnded (y ∷ xs)

-- a line that no newline ends, which has a character
abbrev pub IsRest : List Authored → Type 0
IsRest [] = ⊥
IsRest (x ∷ []) = x.1 ≢ 10
IsRest (x ∷ y ∷ xs) = (x.1 ≢ 10) × IsRest (y ∷ xs)

-- each ends at its newline, which the last one may lack
abbrev pub AreLines : List (List Authored) → Type 0
AreLines [] = Unit {0}
AreLines (l ∷ []) = IsEnded l ⊎ IsRest l
AreLines (l ∷ m ∷ ls) = IsEnded l × AreLines (m ∷ ls)

-- each number is below the next one
abbrev pub IsRising : List ℕ → Type 0
IsRising [] = Unit {0}
IsRising (n ∷ []) = Unit {0}
IsRising (n ∷ m ∷ ns) = (n < m) × IsRising (m ∷ ns)

-- ---- what a replica wrote

-- the counters of the characters that a replica inserted
abbrev pub counters_of : ℕ → Content → List ℕ
counters_of n c = map (λ (id : Identifier). id.counter) (filter (λ (id : Identifier). id.replica == n) (finite_map.keys c.inserted))

-- how many they are and the greatest, where there is one
abbrev pub summary : List ℕ → Option Tally
summary [] = None
summary (k ∷ ks) = Some (tally (length (k ∷ ks)) (greatest (k ∷ ks)))
