-- What an exchange asks of a port, and what it leaves of a buffer.
use Rattle.std.specs.Prelude.{◌≡◌, ◌⊎◌, ℕ, Bool, true, false, List, [], ◌∷◌, ◌++◌, Option, Result, Ok, Err}
use Rattle.rga_ops.specs.Content.{IsWithin}
use Rattle.rga_ops.specs.declared.op.Op.{Op}
use Rattle.rga_exchange.specs.Counting.{one_more}
use Rattle.rga_exchange.specs.declared.fault.ReceiveFault.{ReceiveFault}
use Rattle.rga_exchange.specs.declared.fault.SendFault.{SendFault}
use Rattle.mg_buffer.specs.Following.{TakesOperations}
use Rattle.mg_files.specs.declared.port.CallKind.TheVariants.{Connect, Accept, Finish}
use Rattle.mg_files.specs.declared.port.LinkFault.{LinkFault}
use Rattle.mg_files.specs.declared.port.PortFault.{PortFault}
use Rattle.mg_files.specs.Calls.{Call, link_call, link_refusals, Adds, failures_after, failures_after_link}
use Rattle.mg_buffer.specs.OpenState.{OpenState}
use Rattle.mg_files.specs.Saving.{save_calls, saved, SavesTo}
use Rattle.mg_files.specs.declared.fault.ExchangeFault.{ExchangeFault}
use Rattle.mg_files.specs.declared.fault.ExchangeFault.TheVariants.{Save, Link, Send, Receive}
use Rattle.mg_files.specs.declared.talking.Exchanged.{Exchanged}
use Rattle.mg_files.specs.Asking.{Role, Connects, Waits}

-- ---- how an exchange ended

-- The first save failed; no link was opened; a brief exchange ended before anything else passed; not all was sent, before
-- the peer was heard; the sending was not ended; or else the peer was met, and this came of what was sent, of what was
-- heard, and of the save behind it.
pub data Ending : Type 0 where
  Unsaved : PortFault → Ending
  Unopened : LinkFault → Ending
  Unasked : ExchangeFault → Ending
  Unsent : SendFault → Ending
  Unended : LinkFault → Ending
  Met : Result ℕ SendFault → Result ℕ ReceiveFault → Result Bool PortFault → Ending

-- what is answered of a peer that was heard, and of the save behind it: a fault of the peer, whatever came of the save
abbrev pub peer_answer : Result ℕ ReceiveFault → Result Bool PortFault → Result ℕ ExchangeFault
peer_answer (Err fault) kept = Err (Receive fault)
peer_answer (Ok received) (Err fault) = Err (Save fault)
peer_answer (Ok received) (Ok changed) = Ok received

-- and of what was sent, too
abbrev pub whole_answer : Result ℕ SendFault → Result ℕ ExchangeFault → Result Exchanged ExchangeFault
whole_answer sent (Err fault) = Err fault
whole_answer (Err fault) (Ok received) = Err (Send fault)
whole_answer (Ok sent) (Ok received) = Ok (record { sent = sent; received = received })

abbrev pub answer_of : Ending → Result Exchanged ExchangeFault
answer_of (Unsaved fault) = Err (Save fault)
answer_of (Unopened fault) = Err (Link fault)
answer_of (Unasked fault) = Err fault
answer_of (Unsent fault) = Err (Send fault)
answer_of (Unended fault) = Err (Link fault)
answer_of (Met sent heard kept) = whole_answer sent (peer_answer heard kept)

-- ---- what was done

-- the call that opens a link
abbrev pub opening : Role → Call
opening Connects = link_call Connect
opening Waits = link_call Accept

-- what a brief exchange may fail at before anything else passes over the link
abbrev pub is_talk : ExchangeFault → Bool
is_talk (Send fault) = true
is_talk (Receive fault) = true
is_talk fault = false

module _ (old new : Option (List Call)) (b d : OpenState) where
  -- The buffer was saved, and behind the save no more was done than these calls.
  pub record EndsBehind (made : List Call) : Type 0 where
    pub calls : Adds old new (save_calls b ++ made)
    pub left : d ≡ saved b

  -- The buffer was saved, and behind the save and these calls a peer was heard, to its end or not: operations were taken,
  -- and nothing else changed. Then what was held was saved or not.
  pub record Meets (made : List Call) (kept : Result Bool PortFault) : Type 0 where
    pub mid : Option (List Call)
    pub calls : Adds old mid (save_calls b ++ made)
    pub met : OpenState
    pub ops : List Op
    pub took : TakesOperations (saved b).buffer ops met.buffer
    pub rest : met ≡ record (saved b) { buffer = met.buffer }
    pub saves : SavesTo kept mid new met d

  -- A replica that connects sends all before it hears the peer, and one that waits replies once all is saved: so neither
  -- ends in any other way.
  abbrev pub Came : Role → Ending → Type 0
  Came role (Unsaved fault) = SavesTo (Err fault) old new b d
  Came role (Unopened fault) = EndsBehind (link_refusals fault (opening role))
  Came role (Unasked fault) = (b.brief ≡ true) × ((is_talk fault ≡ true) × EndsBehind (opening role ∷ []))
  Came Connects (Unsent fault) = EndsBehind (link_call Connect ∷ [])
  Came Connects (Unended fault) = EndsBehind (link_call Connect ∷ link_refusals fault (link_call Finish))
  Came Connects (Met (Ok sent) heard kept) = Meets (link_call Connect ∷ link_call Finish ∷ []) kept
  Came Waits (Met sent heard kept) = Meets (link_call Accept ∷ []) kept
  Came role ending = ⊥

-- How it ended is what is answered. Whatever that is, the buffer has all that it had, and may have more; its name, replica
-- and limit, point, mark and groups stay.
pub record Exchanges (role : Role) (old new : Option (List Call)) (b d : OpenState) (answer : Result Exchanged ExchangeFault) : Type 0 where
  pub ending : Ending
  pub answered : answer ≡ answer_of ending
  pub came : Came old new b d role ending
  pub within : IsWithin b.buffer.content d.buffer.content
  pub rest : d.buffer ≡ record b.buffer { content = d.buffer.content; unsaved = d.buffer.unsaved }

-- How many calls of a port failed. A save that fails behind a peer that was not heard to its end is not answered.
abbrev pub CountsFaults : {A : Type 0} → Result A ExchangeFault → ℕ → ℕ → Type 0
CountsFaults (Ok a) old new = new ≡ old
CountsFaults (Err (Save fault)) old new = new ≡ failures_after {A = Bool} (Err fault) old
CountsFaults (Err (Link fault)) old new = new ≡ failures_after_link {A = Bool} (Err fault) old
CountsFaults (Err (Send fault)) old new = new ≡ old
CountsFaults (Err (Receive fault)) old new = (new ≡ old) ⊎ (new ≡ one_more old)
