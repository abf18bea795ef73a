-- The names of refusals, as they are printed.
use Rattle.std.specs.Prelude.{ℕ, List, codes}
use Rattle.rga_ops.specs.declared.refusal.Refusal.{Refusal}
use Rattle.rga_ops.specs.declared.refusal.Refusal.TheVariants.{BadId, BadOrder, Conflict, Full, Range, Clock, Memory}

abbrev pub refusal_name : Refusal → List ℕ
refusal_name BadId = codes "BadId"
refusal_name BadOrder = codes "BadOrder"
refusal_name (Conflict id) = codes "Conflict"
refusal_name Full = codes "Full"
refusal_name Range = codes "Range"
refusal_name Clock = codes "Clock"
refusal_name (Memory _) = codes "Memory"
