-- Want of memory, as a value: there is one.
use Rattle.rga_ops.specs.declared.out_of_memory.OutOfMemory.{OutOfMemory}
use Rattle.rga_ops.specs.declared.refusal.Refusal.{Refusal}
use Rattle.rga_ops.specs.declared.refusal.Refusal.TheVariants.{Memory as OfMemory}

abbrev pub out_of_memory : OutOfMemory
out_of_memory = record { refused = record {} }

abbrev pub Memory : Refusal
Memory = OfMemory out_of_memory
