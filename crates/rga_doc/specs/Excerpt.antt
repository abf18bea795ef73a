-- The visible elements that an edit names: a part of them, counted as in the whole text.
use Rattle.std.specs.Prelude.{ℕ, ◌-◌, List, [], ◌∷◌, ◌++◌, take, drop, replicate}
use Rattle.rga_ops.specs.Identifier.{Identifier, root}
use Rattle.rga_ops.specs.Splice.{Splice}

-- how many elements stand before the part, and a list from the front of the text on, where the root stands for each of these
pub record Excerpted : Type 0 where
  pub start : ℕ
  pub items : List Identifier

-- from the element before a place up to another place
abbrev pub excerpt : List Identifier → ℕ → ℕ → Excerpted
excerpt elements lo hi = record { start = lo - 1; items = replicate (lo - 1) root ++ drop (lo - 1) (take hi elements) }

-- where the last splice begins; 0 where there is none
abbrev pub begin_of : List Splice → ℕ
begin_of [] = 0
begin_of (s ∷ []) = s.lo
begin_of (s ∷ t ∷ splices) = begin_of (t ∷ splices)
