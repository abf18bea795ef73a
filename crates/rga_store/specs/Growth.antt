-- Which operations need memory.
use Rattle.std.specs.Prelude.{◌≡◌, ◌&&◌, Bool, false, not, List, is_ok}
use Rattle.std.specs.List.{list_any}
use Rattle.std.specs.FinMap as finite_map
use Rattle.rga_ops.specs.Content.{Content}
use Rattle.rga_ops.specs.NewOperations.{holds}
use Rattle.rga_ops.specs.Operation.{checked}
use Rattle.rga_ops.specs.declared.op.Op.{Op}
use Rattle.rga_ops.specs.declared.op.Op.TheVariants.{Insert, Delete}

-- an insertion, and the deletion of what is not inserted
abbrev pub NeedsRoom : Content → Op → Type 0
NeedsRoom c (Insert id parent ch) = Unit {0}
NeedsRoom c (Delete id) = finite_map.contains_key c.inserted id ≡ false

-- the operation is ill-formed, or not in the content
abbrev pub is_unknown : Content → Op → Bool
is_unknown c op = not (is_ok (checked op) && holds c op)

-- some operation of a list is
abbrev pub has_unknown : Content → List Op → Bool
has_unknown c ops = list_any (is_unknown c) ops
