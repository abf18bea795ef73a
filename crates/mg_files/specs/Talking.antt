-- What passes over a link, and what it leaves of a buffer.
use Rattle.std.specs.Prelude.{◌≡◌, ◌≢◌, ℕ, ◌≤◌, List, length, Option, Some, None, Result, Ok, Err, OnOk, IfOk}
use Rattle.rga_ops.specs.Content.{Content, IsSound, Agree, join, content_of, known_count}
use Rattle.rga_ops.specs.Operations.{operations}
use Rattle.rga_ops.specs.declared.op.Op.{Op}
use Rattle.rga_exchange.specs.Counting.{Calls, CountsAs, OnBytes, Writes, WritesFront}
use Rattle.rga_lines.specs.Log.{stream_operations}
use Rattle.rga_exchange.specs.Receiving.{exchange_outcome}
use Rattle.rga_exchange.specs.Sending.{exchange_text}
use Rattle.rga_exchange.specs.Taking.{intake, HasTakenLines}
use Rattle.rga_exchange.specs.declared.taking.Form.TheVariants.{Exchange}
use Rattle.rga_exchange.specs.declared.fault.ReceiveFault.{ReceiveFault}
use Rattle.rga_exchange.specs.declared.fault.ReceiveFault.TheVariants as receive
use Rattle.rga_exchange.specs.Memory.{ReceiveMemory}
use Rattle.rga_exchange.specs.declared.fault.SendFault.{SendFault}
use Rattle.rga_exchange.specs.declared.fault.SendFault.TheVariants as send
use Rattle.rga_brief.specs.Summary.{Summary, missing}
use Rattle.mg_buffer.specs.Following.{TakesOperations}
use Rattle.mg_buffer.specs.State.{State}
use Rattle.mg_buffer.specs.OpenState.{OpenState}

-- ---- what is sent of what is held

-- all, or what a peer lacks by the summary that it gave
abbrev pub told_to : Option Summary → Content → List Op
told_to None c = operations c
told_to (Some peer) c = missing c peer

abbrev pub told_content : Option Summary → Content → Content
told_content None c = c
told_content (Some peer) c = content_of (missing c peer)

-- ---- from the one state of a link to the other

-- What was told to the peer that gave this summary, or none, was sent, or a beginning of it: the link's known bytes grew by
-- so much. Sent whole, it is received whole by what agrees with what is held and has room. `Write` is answered exactly
-- where a call of the link failed.
pub record SendsOver {L : Type 0} (peer : Option Summary) (contents : L → Option (List ℕ)) (old new : Calls L) (answer : Result ℕ SendFault) (c : Content) : Type 0 where
  pub number : IfOk answer (λ n. n ≡ length (told_to peer c))
  pub written : OnOk answer (Writes contents old new (exchange_text (told_to peer c)))
  pub received : IfOk answer (λ n. (limit : ℕ) (d : Content) → IsSound c → Agree d c → known_count (join d (told_content peer c)) ≤ limit
      → exchange_outcome limit d (exchange_text (told_to peer c)) ≡ (join d (told_content peer c), Ok n))
  pub begun : WritesFront contents old new (exchange_text (told_to peer c))
  pub device : CountsAs send.Write answer old new

-- A peer was heard: the first lines of what the link gave were taken into the buffer, and nothing else. However the reads
-- cut the bytes, they lead to what all of them lead to; heard to its end, the content is joined with their operations.
-- `Read` is answered exactly where a call of the link failed.
pub record HearsOver {L : Type 0} (remaining : L → Option (List ℕ)) (old new : Calls L) (answer : Result ℕ ReceiveFault) (b d : OpenState) : Type 0 where
  pub lines : HasTakenLines Exchange remaining old new (intake (λ (s : State). s.limit) (λ (s : State). s.content) TakesOperations b.buffer d.buffer)
  pub outcome : answer ≢ Err receive.Read → answer ≢ Err ReceiveMemory → OnBytes remaining old (λ bytes. exchange_outcome b.buffer.limit b.buffer.content bytes ≡ (d.buffer.content, answer))
  pub joined : OnOk answer (OnBytes remaining old (λ bytes. d.buffer.content ≡ join b.buffer.content (content_of (stream_operations bytes))))
  pub device : CountsAs receive.Read answer old new
  pub rest : d ≡ record b { buffer = d.buffer }
