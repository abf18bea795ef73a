-- Want of memory, as faults: there is one of each.
use Rattle.rga_ops.specs.Memory.{out_of_memory}
use Rattle.mgr_mend.specs.declared.fault.MergeFault.{MergeFault}
use Rattle.mgr_mend.specs.declared.fault.MergeFault.TheVariants as mergeFault

abbrev pub MergeMemory : MergeFault
MergeMemory = mergeFault.Memory out_of_memory
