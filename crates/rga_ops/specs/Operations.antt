-- The operations of a content.
use Rattle.std.specs.Prelude.{List, ◌++◌, map, Option}
use Rattle.std.specs.Option.{option_map}
use Rattle.std.specs.FinMap as finite_map
use Rattle.std.specs.FinSet as finite_set
use Rattle.rga_ops.specs.Identifier.{Identifier, id_cmp}
use Rattle.rga_ops.specs.Content.{Element, Content}
use Rattle.rga_ops.specs.declared.op.Op.{Op}
use Rattle.rga_ops.specs.declared.op.Op.TheVariants.{Insert, Delete}

abbrev pub insertion_of : Identifier × Element → Op
insertion_of e = Insert e.0 e.1.parent e.1.ch

abbrev pub insertions : Content → List Op
insertions c = map insertion_of (finite_map.entries c.inserted)

abbrev pub alone : Identifier → Identifier × Unit {0}
alone id = (id, tt)

-- the identifiers by their order, each once
abbrev pub rising : List Identifier → List Identifier
rising ids = finite_map.keys (finite_map.from_entries {R = id_cmp} (map alone ids))

abbrev pub deletions : Content → List Op
deletions c = map Delete (rising (finite_set.items c.deleted))

-- the insertion of an identifier, if there is one
abbrev pub insertion_at : Content → Identifier → Option Op
insertion_at c id = option_map (λ x. insertion_of (id, x)) (finite_map.get c.inserted id)

-- the insertions by rising identifier, and then the deletions by rising identifier
abbrev pub operations : Content → List Op
operations c = insertions c ++ deletions c
