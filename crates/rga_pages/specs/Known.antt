-- What is known of an identifier.
use Rattle.std.specs.Prelude.{ℕ, Bool, Option}
use Rattle.rga_ops.specs.Identifier.{Identifier}

-- the parent and the character of an element, if there is one, where it may stand, and whether it is marked
pub record Known : Type 0 where
  pub parent : Identifier
  pub ch : Option ℕ
  pub block : ℕ
  pub index : ℕ
  pub deleted : Bool
