-- The links that a port opens.
use Rattle.std.specs.Prelude.{ℕ, List, Option}
use Rattle.std.specs.Io.KnownBytes.{Keeps}

-- what a link tells both ways stays: what it was given, and what it is still to give
pub record KeepsBytes {L : Type 0} (remaining contents : L → Option (List ℕ)) (old new : L) : Type 0 where
  pub given : Keeps (contents old) (contents new)
  pub to_give : Keeps (remaining old) (remaining new)
