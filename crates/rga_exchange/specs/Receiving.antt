-- What an exchange leads to.
use Rattle.std.specs.Prelude.{ℕ, ◌≤◌, ◌==◌, if◌then◌else◌, List, ◌++◌, length, Option, Result, Ok, Err}
use Rattle.std.specs.List.{AllByRecursion}
use Rattle.std.specs.Io.KnownBytes.{Consumes}
use Rattle.rga_ops.specs.Content.{Content}
use Rattle.rga_exchange.specs.Counting.{Calls}
use Rattle.rga_lines.specs.Stream.{lines_of}
use Rattle.rga_lines.specs.Log.{IsOperation, stream_operations}
use Rattle.rga_exchange.specs.declared.block.TheConstants.{BLOCK}
use Rattle.rga_exchange.specs.declared.fault.LogFault.{LogFault}
use Rattle.rga_exchange.specs.declared.fault.LogFault.TheVariants as log
use Rattle.rga_exchange.specs.declared.fault.ReceiveFault.{ReceiveFault}
use Rattle.rga_exchange.specs.declared.fault.ReceiveFault.TheVariants as fault
use Rattle.rga_exchange.specs.Memory.{ReceiveMemory}
use Rattle.rga_exchange.specs.Taking.{body, Stop, AllTaken, AtEnd, AtFault, stream_taken}
use Rattle.rga_exchange.specs.declared.taking.Form.{Form}
use Rattle.rga_exchange.specs.declared.taking.Form.TheVariants.{Exchange}

-- a fault of the lines, as one of an exchange
abbrev pub receive_fault : LogFault → ReceiveFault
receive_fault (log.Line n e) = fault.Line n e
receive_fault (log.Refused n e) = fault.Refused n e
receive_fault log.Read = fault.Read
receive_fault (log.Memory _) = ReceiveMemory

-- the number of operations, where the end line came and names it
abbrev pub number_received : ℕ → Stop → Result ℕ ReceiveFault
number_received n AllTaken = Err fault.Cut
number_received n (AtEnd number) = if number == n then Ok n else Err fault.Count
number_received n (AtFault e) = Err (receive_fault e)

-- the content after an exchange, and the number of operations, or a fault
abbrev pub exchange_outcome : ℕ → Content → List ℕ → Content × Result ℕ ReceiveFault
exchange_outcome limit c bytes = let t = stream_taken Exchange limit c bytes in (t.content, number_received (length (stream_operations bytes)) t.stop)

-- What a reader gave of a stream of that form, from the one state to the other: lines of operations alone, behind the
-- head of an exchange where it has one, with no end line among them, and then one block at most.
pub record EndsWithLastRead {R : Type 0} (form : Form) (remaining : R → Option (List ℕ)) (old new : Calls R) : Type 0 where
  pub before : List ℕ
  pub last : List ℕ
  pub read : Consumes (remaining old.inner) (remaining new.inner) (before ++ last)
  pub one_block : length last ≤ BLOCK
  pub operations : AllByRecursion IsOperation (body form (lines_of before))
