-- What a command sees.
use Rattle.std.specs.Prelude.{ℕ, ◌≤◌, List, length, Option}
use Rattle.std.specs.Option.{ForSome}
use Rattle.mg_plain.specs.declared.view.Kind.{Kind}

-- a text with its point and mark, the kill buffer, and the goal and the kind that the command before left
pub record Situation : Type 0 where
  pub text : List ℕ
  pub point : ℕ
  pub mark : Option ℕ
  pub kill : List ℕ
  pub goal : ℕ
  pub last : Kind

-- point and mark are places of the text
pub record IsView (s : Situation) : Type 0 where
  pub point : s.point ≤ length s.text
  pub mark : ForSome s.mark (λ m. m ≤ length s.text)
