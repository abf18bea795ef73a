-- The characters of a text in one slice, with room at both ends.
use Rattle.std.specs.Prelude.{ℕ, List, ◌++◌, take, drop}
use Rattle.rga_ops.specs.Splice.{spliced}

-- the characters in order, and how many more may be put without memory
pub record CharacterList : Type 0 where
  pub items : List ℕ
  pub room : ℕ

-- between two places the first characters, so many of them, stand behind the others
abbrev pub turned : List ℕ → ℕ → ℕ → ℕ → List ℕ
turned xs from end count = spliced xs from end (drop count (drop from (take end xs)) ++ take count (drop from (take end xs)))
