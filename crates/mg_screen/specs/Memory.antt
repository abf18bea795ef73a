-- Want of memory, as faults: there is one of each.
use Rattle.rga_ops.specs.Memory.{out_of_memory}
use Rattle.mg_screen.specs.declared.windows.WindowFault.{WindowFault}
use Rattle.mg_screen.specs.declared.windows.WindowFault.TheVariants as windowFault

abbrev pub WindowMemory : WindowFault
WindowMemory = windowFault.Memory out_of_memory
