-- Answers, want of memory included.
use Rattle.std.specs.Prelude.{◌≡◌, ◌≢◌, Result, Err, IsOk}
use Rattle.mg_plain.specs.declared.outcome.Notice.{Notice}
use Rattle.mg_plain.specs.Memory.{NoticeMemory as Memory}
use Rattle.mg_plain.specs.Effect.{Effect}

-- an answer is the effect or the notice that is due; want of memory comes last
pub record IsEffectAnswer (answer due : Result Effect Notice) : Type 0 where
  pub exact : answer ≢ Err Memory → answer ≡ due
  pub memory : answer ≡ Err Memory → IsOk due
