-- Want of memory, as faults: there is one of each.
use Rattle.rga_ops.specs.Memory.{out_of_memory}
use Rattle.mg_workspace.specs.declared.fault.ActionFault.{ActionFault}
use Rattle.mg_workspace.specs.declared.fault.ActionFault.TheVariants as actionFault

abbrev pub ActionMemory : ActionFault
ActionMemory = actionFault.Memory out_of_memory
