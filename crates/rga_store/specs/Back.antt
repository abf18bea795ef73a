-- What is left of a content once the operations that were noted are removed again.
use Rattle.std.specs.Prelude.{◌≡◌, ℕ, List, [], ◌∷◌}
use Rattle.rga_ops.specs.Content.{Content, Holds, clock_of}
use Rattle.rga_ops.specs.declared.op.Op.{Op}
use Rattle.rga_store.specs.Without.{without_operation}
use Rattle.rga_store.specs.declared.steps.Step.{Step}

-- what is left once the operations of the steps are removed, the last first
abbrev pub without_noted : List Step → Content → Content
without_noted [] c = c
without_noted (s ∷ ss) c = without_operation s.op.now (without_noted ss c)

-- the content holds each step's operation when its turn comes, and the step's clock is that of what is left then
abbrev pub CanTakeBack : List Step → Content → Type 0
CanTakeBack [] c = Unit {0}
CanTakeBack (s ∷ ss) c = CanTakeBack ss c × (Holds (without_noted ss c) s.op.now × (s.clock ≡ clock_of (without_operation s.op.now (without_noted ss c))))

-- the operation was the last one, with the clock before it, and those of the steps before it can be removed after it
pub record IsLastNoted (ss : List Step) (op : Op) (before : ℕ) (c : Content) : Type 0 where
  pub held : Holds c op
  pub clocked : before ≡ clock_of (without_operation op c)
  pub rest : CanTakeBack ss (without_operation op c)
