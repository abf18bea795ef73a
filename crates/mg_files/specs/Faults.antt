-- Faults and refusals, as those of a load.
use Rattle.rga_ops.specs.declared.refusal.Refusal.{Refusal}
use Rattle.rga_ops.specs.declared.refusal.Refusal.TheVariants as refusal
use Rattle.rga_exchange.specs.declared.fault.ReceiveFault.{ReceiveFault}
use Rattle.rga_exchange.specs.declared.fault.ReceiveFault.TheVariants as receive
use Rattle.mg_files.specs.declared.fault.LoadFault.{LoadFault}
use Rattle.mg_files.specs.declared.fault.LoadFault.TheVariants.{Log, Store}
use Rattle.mg_files.specs.Memory.{LoadMemory as Memory}

-- the bytes of a log are in memory, so that a read of them that fails is want of memory
abbrev pub load_fault : ReceiveFault → LoadFault
load_fault receive.Read = Memory
load_fault (receive.Memory _) = Memory
load_fault fault = Log fault

abbrev pub store_fault : Refusal → LoadFault
store_fault (refusal.Memory _) = Memory
store_fault fault = Store fault
