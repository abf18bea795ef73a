-- What stands beside the operations of a note.
use Rattle.std.specs.Prelude.{ℕ, Bool, List, Option}

-- whether there is a log, and the bytes of the text, if it was found
pub record Beside : Type 0 where
  pub logged : Bool
  pub text : Option (List ℕ)
