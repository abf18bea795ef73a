-- Operations, and which of them are well-formed.
use Rattle.std.specs.Prelude.{nat_le, if◌then◌else◌, Result, Ok, Err}
use Rattle.rga_ops.specs.Identifier.{Identifier, is_root}
use Rattle.rga_ops.specs.declared.op.Op.{Op}
use Rattle.rga_ops.specs.declared.op.Op.TheVariants.{Insert, Delete}
use Rattle.rga_ops.specs.declared.refusal.Refusal.{Refusal}
use Rattle.rga_ops.specs.declared.refusal.Refusal.TheVariants.{BadId, BadOrder}

abbrev pub id_of : Op → Identifier
id_of (Insert id parent ch) = id
id_of (Delete id) = id

-- The root is the identifier of no element, and an insertion's counter is above its parent's: so no element is its
-- own ancestor.
abbrev pub checked : Op → Result (Unit {0}) Refusal
checked (Insert id parent ch) = if is_root id then Err BadId else if nat_le id.counter parent.counter then Err BadOrder else Ok tt
checked (Delete id) = if is_root id then Err BadId else Ok tt
