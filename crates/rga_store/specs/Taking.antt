-- What a replica took by a call.
use Rattle.std.specs.Prelude.{List, ◌++◌}
use Rattle.rga_ops.specs.Content.{Content}
use Rattle.rga_ops.specs.Took.{Took}
use Rattle.rga_ops.specs.declared.op.Op.{Op}

-- a replica that held the first content by the operations that it took holds the second by these and then the further ones
abbrev pub TakesMore : Content → List Op → Content → Type 0
TakesMore old more new = (ops : List Op) → Took ops old → Took (ops ++ more) new

-- the same by all that another replica took to hold the content in the middle
abbrev pub TakesAllOf : Content → Content → Content → Type 0
TakesAllOf old other new = (others : List Op) → Took others other → TakesMore old others new
