-- Want of memory, as faults: there is one of each.
use Rattle.mg_workspace.specs.Memory.{ActionMemory}
use Rattle.mg_editor.specs.declared.pasting.PasteFault.{PasteFault}
use Rattle.mg_editor.specs.declared.pasting.PasteFault.TheVariants as pasteFault

abbrev pub PasteMemory : PasteFault
PasteMemory = pasteFault.Action ActionMemory
