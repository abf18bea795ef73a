-- Want of memory, as faults: there is one of each.
use Rattle.rga_ops.specs.Memory.{out_of_memory}
use Rattle.rga_exchange.specs.declared.fault.SendFault.{SendFault}
use Rattle.rga_exchange.specs.declared.fault.SendFault.TheVariants as sendFault
use Rattle.rga_exchange.specs.declared.fault.LogFault.{LogFault}
use Rattle.rga_exchange.specs.declared.fault.LogFault.TheVariants as logFault
use Rattle.rga_exchange.specs.declared.fault.ReceiveFault.{ReceiveFault}
use Rattle.rga_exchange.specs.declared.fault.ReceiveFault.TheVariants as receiveFault

abbrev pub SendMemory : SendFault
SendMemory = sendFault.Memory out_of_memory

abbrev pub LogMemory : LogFault
LogMemory = logFault.Memory out_of_memory

abbrev pub ReceiveMemory : ReceiveFault
ReceiveMemory = receiveFault.Memory out_of_memory
