-- What stands round a step.
use Rattle.std.specs.Prelude.{ℕ, Bool, List}

-- text and point of the current buffer, the text rows of the current window, and whether any buffer is changed
pub record Scene : Type 0 where
  pub text : List ℕ
  pub point : ℕ
  pub rows : ℕ
  pub changed : Bool
