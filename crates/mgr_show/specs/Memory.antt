-- Want of memory, as faults: there is one of each.
use Rattle.rga_ops.specs.Memory.{out_of_memory}
use Rattle.mgr_show.specs.declared.fault.ShowFault.{ShowFault}
use Rattle.mgr_show.specs.declared.fault.ShowFault.TheVariants as showFault
use Rattle.mgr_show.specs.declared.fault.JoinFault.{JoinFault}
use Rattle.mgr_show.specs.declared.fault.JoinFault.TheVariants as joinFault
use Rattle.mgr_show.specs.declared.fault.MissingFault.{MissingFault}
use Rattle.mgr_show.specs.declared.fault.MissingFault.TheVariants as missingFault

abbrev pub ShowMemory : ShowFault
ShowMemory = showFault.Memory out_of_memory

abbrev pub JoinMemory : JoinFault
JoinMemory = joinFault.Memory out_of_memory

abbrev pub MissingMemory : MissingFault
MissingMemory = missingFault.Memory out_of_memory
