-- Want of memory, as faults: there is one of each.
use Rattle.rga_ops.specs.Memory.{out_of_memory}
use Rattle.mg_files.specs.declared.port.PortFault.{PortFault}
use Rattle.mg_files.specs.declared.port.PortFault.TheVariants as portFault
use Rattle.mg_files.specs.declared.port.LinkFault.{LinkFault}
use Rattle.mg_files.specs.declared.port.LinkFault.TheVariants as linkFault
use Rattle.mg_files.specs.declared.fault.LoadFault.{LoadFault}
use Rattle.mg_files.specs.declared.fault.LoadFault.TheVariants as loadFault

abbrev pub PortMemory : PortFault
PortMemory = portFault.Memory out_of_memory

abbrev pub LinkMemory : LinkFault
LinkMemory = linkFault.Memory out_of_memory

abbrev pub LoadMemory : LoadFault
LoadMemory = loadFault.Memory out_of_memory
