-- Want of memory, as faults: there is one of each.
use Rattle.rga_ops.specs.Memory.{out_of_memory}
use Rattle.mgr_args.specs.declared.job.JobFault.{JobFault}
use Rattle.mgr_args.specs.declared.job.JobFault.TheVariants as jobFault

abbrev pub JobMemory : JobFault
JobMemory = jobFault.Memory out_of_memory
