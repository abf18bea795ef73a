-- What comes of operations that are taken one by one, up to the first that is refused.
use Rattle.std.specs.Prelude.{ℕ, List, [], ◌∷◌, Option, Some, None, Result, Ok, Err}
use Rattle.rga_ops.specs.Content.{Content}
use Rattle.rga_ops.specs.Answer.{taken}
use Rattle.rga_ops.specs.declared.op.Op.{Op}
use Rattle.rga_ops.specs.declared.refusal.Refusal.{Refusal}

-- what is held then, and the refusal, if there is one
abbrev pub Outcome : Type 0
Outcome = Content × Option Refusal

abbrev pub go_on : Content → Result Content Refusal → (Content → Outcome) → Outcome
go_on c (Ok d) f = f d
go_on c (Err e) f = (c, Some e)

-- of what may know that many identifiers and holds c
abbrev pub taken_in_turn : ℕ → Content → List Op → Outcome
taken_in_turn limit c [] = (c, None)
taken_in_turn limit c (op ∷ ops) = go_on c (taken limit c op) (λ d. taken_in_turn limit d ops)
