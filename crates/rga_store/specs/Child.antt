-- Which identifiers are children of which.
use Rattle.std.specs.Prelude.{Bool, false}
use Rattle.std.specs.Option.{option_map_or}
use Rattle.std.specs.FinMap as finite_map
use Rattle.rga_ops.specs.Identifier.{Identifier, is_id}
use Rattle.rga_ops.specs.Content.{Content}

-- the second identifier is inserted with the first as its parent
abbrev pub is_child : Content → Identifier → Identifier → Bool
is_child c p k = option_map_or (λ x. is_id x.parent p) (finite_map.get c.inserted k) false
