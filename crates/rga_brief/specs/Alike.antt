-- Two exchanges that lead to the same, but for numbers.
use Rattle.std.specs.Prelude.{◌≡◌, ℕ, ⊤, Result, Ok, Err}
use Rattle.rga_ops.specs.Content.{Content}
use Rattle.rga_exchange.specs.declared.fault.ReceiveFault.{ReceiveFault}
use Rattle.rga_exchange.specs.declared.fault.ReceiveFault.TheVariants.{Refused}

-- both are taken whole, or both stop at an operation that is refused, for the same
abbrev pub AreAnsweredAlike : Result ℕ ReceiveFault → Result ℕ ReceiveFault → Type 0
AreAnsweredAlike (Ok m) (Ok n) = ⊤
AreAnsweredAlike (Err (Refused m e)) (Err (Refused n f)) = e ≡ f
AreAnsweredAlike r s = ⊥

-- and what is held then is the same
pub record AreReceivedAlike (x y : Content × Result ℕ ReceiveFault) : Type 0 where
  pub content : x.0 ≡ y.0
  pub answer : AreAnsweredAlike x.1 y.1
