-- Want of memory, as faults: there is one of each.
use Rattle.rga_ops.specs.Memory.{out_of_memory}
use Rattle.rga_lines.specs.declared.fault.LineFault.{LineFault}
use Rattle.rga_lines.specs.declared.fault.LineFault.TheVariants as lineFault

abbrev pub LineMemory : LineFault
LineMemory = lineFault.Memory out_of_memory
