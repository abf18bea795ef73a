-- What passes over a link before an exchange that is brief: what each side knows.
use Rattle.std.specs.Prelude.{◌≡◌, ◌≢◌, ℕ, true, false, List, Option, Some, None, Result, Ok, Err, OnOk}
use Rattle.rga_ops.specs.Content.{Content}
use Rattle.rga_exchange.specs.Counting.{Calls, CountsAs, OnBytes, WritesFront}
use Rattle.rga_exchange.specs.declared.fault.ReceiveFault.{ReceiveFault}
use Rattle.rga_exchange.specs.declared.fault.ReceiveFault.TheVariants as receive
use Rattle.rga_exchange.specs.Memory.{ReceiveMemory}
use Rattle.rga_exchange.specs.declared.fault.SendFault.{SendFault}
use Rattle.rga_exchange.specs.declared.fault.SendFault.TheVariants as send
use Rattle.rga_brief.specs.Summary.{Summary, IsSummary}
use Rattle.rga_brief.specs.Heard.{ReadsToBlock}
use Rattle.rga_brief.specs.Told.{TellsSummary, summary_heard, summary_text}
use Rattle.mg_buffer.specs.OpenState.{OpenState}
use Rattle.mg_files.specs.declared.fault.ExchangeFault.{ExchangeFault}
use Rattle.mg_files.specs.declared.fault.ExchangeFault.TheVariants.{Send, Receive}

-- Of two that meet one connects, and the other waits for it.
pub data Role : Type 0 where
  Connects : Role
  Waits : Role

-- what links tell of themselves: the bytes that each is still to give, and those that it was given
pub record Wire (L : Type 0) : Type 0 where
  pub remaining : L → Option (List ℕ)
  pub contents : L → Option (List ℕ)

module _ {L : Type 0} (contents : L → Option (List ℕ)) where
  -- What is known was told, or a beginning of it. `Write` is answered exactly where a call of the link failed.
  pub record SaysOver (old new : Calls L) (answer : Result (Unit {0}) SendFault) (c : Content) : Type 0 where
    pub told : OnOk answer (TellsSummary contents old new c)
    pub begun : (own : Summary) → IsSummary c own → WritesFront contents old new (summary_text own)
    pub device : CountsAs send.Write answer old new

module _ {L : Type 0} (remaining : L → Option (List ℕ)) where
  -- What the peer knows was heard. However the reads cut the bytes, they lead to what all of them lead to, and no read
  -- follows the one that brought the end. `Read` is answered exactly where a call of the link failed.
  pub record LearnsOver (old new : Calls L) (answer : Result Summary ReceiveFault) : Type 0 where
    pub outcome : answer ≢ Err receive.Read → answer ≢ Err ReceiveMemory → OnBytes remaining old (λ bytes. summary_heard bytes ≡ answer)
    pub last : OnOk answer (ReadsToBlock remaining old new)
    pub device : CountsAs receive.Read answer old new

module _ {L : Type 0} (wire : Wire L) where
  -- what is known was told, and then the peer heard
  pub record SaysThenLearns (old new : Calls L) (c : Content) (answer : Result Summary ReceiveFault) : Type 0 where
    pub mid : Calls L
    pub says : SaysOver wire.contents old mid (Ok tt) c
    pub learns : LearnsOver wire.remaining mid new answer

  -- the peer was heard, and then what is known told
  pub record LearnsThenSays (old new : Calls L) (c : Content) (peer : Summary) (answer : Result (Unit {0}) SendFault) : Type 0 where
    pub mid : Calls L
    pub learns : LearnsOver wire.remaining old mid (Ok peer)
    pub says : SaysOver wire.contents mid new answer c

  -- What is done first with a buffer: nothing, unless its exchanges are brief.
  abbrev pub Asks : Result (Option Summary) ExchangeFault → Role → OpenState → Calls L → Calls L → Type 0
  Asks (Ok None) role b old new = (b.brief ≡ false) × (new ≡ old)
  Asks (Ok (Some peer)) Connects b old new = (b.brief ≡ true) × SaysThenLearns old new b.buffer.content (Ok peer)
  Asks (Err (Send fault)) Connects b old new = (b.brief ≡ true) × SaysOver wire.contents old new (Err fault) b.buffer.content
  Asks (Err (Receive fault)) Connects b old new = (b.brief ≡ true) × SaysThenLearns old new b.buffer.content (Err fault)
  Asks (Ok (Some peer)) Waits b old new = (b.brief ≡ true) × LearnsThenSays old new b.buffer.content peer (Ok tt)
  Asks (Err (Receive fault)) Waits b old new = (b.brief ≡ true) × LearnsOver wire.remaining old new (Err fault)
  Asks (Err (Send fault)) Waits b old new = (b.brief ≡ true) × ((peer : Summary) × LearnsThenSays old new b.buffer.content peer (Err fault))
  Asks (Err fault) role b old new = ⊥
