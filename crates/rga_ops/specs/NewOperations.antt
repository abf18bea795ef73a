-- The operations of a list that are new where they are taken.
use Rattle.std.specs.Prelude.{Bool, false, List, [], ◌∷◌, if◌then◌else◌}
use Rattle.std.specs.Option.{option_map_or}
use Rattle.std.specs.FinMap as finite_map
use Rattle.std.specs.FinSet as finite_set
use Rattle.rga_ops.specs.Content.{Content, join, single}
use Rattle.rga_ops.specs.Answer.{is_element}
use Rattle.rga_ops.specs.declared.op.Op.{Op}
use Rattle.rga_ops.specs.declared.op.Op.TheVariants.{Insert, Delete}

-- whether the operation is in the content
abbrev pub holds : Content → Op → Bool
holds c (Insert id parent ch) = option_map_or (λ x. is_element x parent ch) (finite_map.get c.inserted id) false
holds c (Delete id) = finite_set.contains c.deleted id

-- those that were not held, when the list is taken one by one
abbrev pub new_operations : Content → List Op → List Op
new_operations c [] = []
new_operations c (op ∷ ops) =
    if holds c op then new_operations c ops else op ∷ new_operations (join c (single op)) ops
