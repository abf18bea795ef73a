-- What stands under the names of logs in memory.
use Rattle.std.specs.Prelude.{ℕ, List, Option}
use Rattle.mgr_port.specs.Logs.{Standing}
use Rattle.test_ports.specs.Steps.{memory_standing, standing_at}
use Rattle.test_ports.specs.declared.logs.MemoryLogs.{MemoryLogs}

abbrev pub stands_in : MemoryLogs → List ℕ → Option Standing
stands_in logs = memory_standing logs.log.items logs.disk.steps.items logs.left

abbrev pub refused_in : MemoryLogs → List ℕ → Option (List ℕ)
refused_in logs name = standing_at name logs.refused.items
