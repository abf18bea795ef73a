-- What a frame is made of.
use Rattle.std.specs.Prelude.{ℕ, Bool, List}

-- a window: the text that it shows from a line on with so many text rows, and what its mode line says of the text, its name
-- as UTF-8; lines count from 0
pub record Pane : Type 0 where
  pub text : List ℕ
  pub point : ℕ
  pub first : ℕ
  pub height : ℕ
  pub name : List ℕ
  pub changed : Bool
  pub waiting : ℕ

-- the windows from the top on, and what the echo line says, as UTF-8
pub record Screen : Type 0 where
  pub panes : List Pane
  pub echo : List ℕ
