-- The names of faults of lines, as they are printed.
use Rattle.std.specs.Prelude.{ℕ, List, codes}
use Rattle.rga_lines.specs.declared.fault.LineFault.{LineFault}
use Rattle.rga_lines.specs.declared.fault.LineFault.TheVariants.{Long, Json, Member, Kind, Id, Char, Order, Memory as OfMemory}
use Rattle.rga_lines.specs.Memory.{LineMemory as Memory}

abbrev pub fault_name : LineFault → List ℕ
fault_name Long = codes "Long"
fault_name Json = codes "Json"
fault_name Member = codes "Member"
fault_name Kind = codes "Kind"
fault_name Id = codes "Id"
fault_name Char = codes "Char"
fault_name Order = codes "Order"
fault_name (OfMemory _) = codes "Memory"
