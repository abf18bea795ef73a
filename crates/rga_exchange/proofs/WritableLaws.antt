-- Operations that were written can be read back.
use Rattle.std.proofs.Common.{◌≡◌, ℕ, ◌+◌, ◌<◌, ◌≤◌, List, length, take, get_or, Ok, subst}
use Rattle.std.specs.Prelude.{All}
use Rattle.std.proofs.lemmas.List.{take_all}
use Rattle.std.proofs.lemmas.List.Elements.{All-more, All-contains}
use Rattle.rga_ops.specs.Operation.{checked}
use Rattle.rga_ops.specs.ListAnswer.{AreWellFormed}
use Rattle.rga_ops.specs.declared.op.Op.{Op}
use Rattle.rga_lines.specs.Spelling.{IsWritable}
use Rattle.rga_exchange.specs.Sending.{AreWritable}

-- the operation can be written, where it is well-formed
abbrev pub MayBeWritten : Op → Type 0
MayBeWritten op = checked op ≡ Ok tt → IsWritable op

pub writable_next : (ops : List Op) (i : ℕ) (op : Op) → i < length ops → op ≡ get_or ops i op → All MayBeWritten (take i ops) → MayBeWritten op → All MayBeWritten (take (i + 1) ops)
writable_next ops i op inside is before this = All-more MayBeWritten ops i op inside before (subst MayBeWritten is this)

pub writable_all : (ops : List Op) (n : ℕ) → length ops ≤ n → All MayBeWritten (take n ops) → AreWellFormed ops → AreWritable ops
writable_all ops n past before well op m = All-contains MayBeWritten ops op (subst (All MayBeWritten) (take_all n ops past) before) m (well op m)
