-- What is left of a content once an operation is removed again.
use Rattle.std.specs.FinMap as finite_map
use Rattle.std.specs.FinSet as finite_set
use Rattle.rga_ops.specs.Identifier.{Identifier}
use Rattle.rga_ops.specs.Content.{Content}
use Rattle.rga_ops.specs.declared.op.Op.{Op}
use Rattle.rga_ops.specs.declared.op.Op.TheVariants.{Insert, Delete}

abbrev pub without_insertion : Identifier → Content → Content
without_insertion id c = record { inserted = finite_map.remove c.inserted id; deleted = c.deleted }

abbrev pub without_deletion : Identifier → Content → Content
without_deletion id c = record { inserted = c.inserted; deleted = finite_set.remove c.deleted id }

-- the content without the operation
abbrev pub without_operation : Op → Content → Content
without_operation (Insert id parent ch) c = without_insertion id c
without_operation (Delete id) c = without_deletion id c
