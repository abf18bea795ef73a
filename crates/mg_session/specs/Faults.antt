-- Faults, as those of a session.
use Rattle.mg_files.specs.declared.fault.LoadFault.{LoadFault}
use Rattle.mg_files.specs.declared.fault.LoadFault.TheVariants as load
use Rattle.mg_files.specs.declared.port.PortFault.{PortFault}
use Rattle.mg_files.specs.declared.port.PortFault.TheVariants as port
use Rattle.mg_session.specs.declared.fault.SessionFault.{SessionFault}
use Rattle.mg_session.specs.declared.fault.SessionFault.TheVariants.{Load, File}
use Rattle.mg_session.specs.Memory.{SessionMemory as Memory}

abbrev pub session_load_fault : LoadFault → SessionFault
session_load_fault (load.Log e) = Load (load.Log e)
session_load_fault load.NotText = Load load.NotText
session_load_fault (load.Store e) = Load (load.Store e)
session_load_fault (load.Memory _) = Memory

abbrev pub port_fault : PortFault → SessionFault
port_fault port.File = File
port_fault (port.Memory _) = Memory
