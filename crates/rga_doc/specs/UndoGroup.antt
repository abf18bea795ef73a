-- What operations inserted and deleted.
use Rattle.std.specs.Prelude.{ℕ, List, [], ◌∷◌, map}
use Rattle.std.specs.Option.{unwrap_or}
use Rattle.rga_ops.specs.Identifier.{Identifier}
use Rattle.rga_ops.specs.Content.{Content}
use Rattle.rga_ops.specs.Places.{character}
use Rattle.rga_ops.specs.declared.op.Op.{Op}
use Rattle.rga_ops.specs.declared.op.Op.TheVariants.{Insert, Delete}

-- the elements that they insert, in order
abbrev pub inserted_elements : List Op → List Identifier
inserted_elements [] = []
inserted_elements (Insert id parent ch ∷ ops) = id ∷ inserted_elements ops
inserted_elements (Delete id ∷ ops) = inserted_elements ops

-- the elements that they delete, in order
abbrev pub deleted_elements : List Op → List Identifier
deleted_elements [] = []
deleted_elements (Insert id parent ch ∷ ops) = deleted_elements ops
deleted_elements (Delete id ∷ ops) = id ∷ deleted_elements ops

-- elements with their characters
abbrev pub element_characters : Content → List Identifier → List (Identifier × ℕ)
element_characters c ids = map (λ id. (id, unwrap_or (character c id) 0)) ids
