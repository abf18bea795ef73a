-- What is missing by claims, and why it is not written.
use Rattle.std.specs.Prelude.{◌≡◌, ℕ, ⊤, List, length, Option, Some, None, IfSome, Result, Ok, Err}
use Rattle.rga_ops.specs.Content.{Content, content_of}
use Rattle.rga_ops.specs.declared.op.Op.{Op}
use Rattle.rga_store.specs.declared.text_store.TheConstants.{MAX_LIMIT}
use Rattle.rga_exchange.specs.Counting.{Calls, Writes, WritesFront, one_more}
use Rattle.rga_exchange.specs.Sending.{StandsFor, log_text}
use Rattle.rga_exchange.specs.declared.fault.ReceiveFault.{ReceiveFault}
use Rattle.rga_exchange.specs.declared.fault.ReceiveFault.TheVariants as claim
use Rattle.rga_exchange.specs.declared.fault.SendFault.{SendFault}
use Rattle.rga_exchange.specs.declared.fault.SendFault.TheVariants as send
use Rattle.rga_brief.specs.Summary.{Summary, missing}
use Rattle.rga_brief.specs.Told.{summary_heard}
use Rattle.mgr_show.specs.Log.{ShowOutcome}
use Rattle.mgr_show.specs.Shown.{log_content, IsOfInput}
use Rattle.mgr_show.specs.Note.{IsReadable, note_of}
use Rattle.mgr_show.specs.Sources.{failures_after}
use Rattle.mgr_show.specs.Claims.{after_head}
use Rattle.mgr_show.specs.declared.fault.MissingFault.{MissingFault}
use Rattle.mgr_show.specs.declared.fault.MissingFault.TheVariants as fault
use Rattle.mgr_show.specs.Memory.{MissingMemory}

-- ---- claims

abbrev pub Heard : Type 0
Heard = Result Summary MissingFault

abbrev pub with_fault : Result Summary ReceiveFault → Heard
with_fault (Ok s) = Ok s
with_fault (Err e) = Err (fault.Claims e)

abbrev pub heard_after : Option (List ℕ) → Heard
heard_after None = Err fault.Head
heard_after (Some lines) = with_fault (summary_heard lines)

-- what claims say after their head, or their first fault
abbrev pub claims_heard : List ℕ → Heard
claims_heard bytes = heard_after (after_head bytes)

-- ---- the log

abbrev pub with_log_fault : ShowOutcome → Result Content MissingFault
with_log_fault (Ok c) = Ok c
with_log_fault (Err e) = Err (fault.Log e)

-- what the log of a note leads to, or its first fault
abbrev pub log_held : List ℕ → Result Content MissingFault
log_held bytes = with_log_fault (note_of MAX_LIMIT bytes)

-- ---- faults

abbrev pub send_fault : SendFault → MissingFault
send_fault send.Write = fault.Write
send_fault (send.Memory _) = MissingMemory

-- faults that the bytes of the claims decide
abbrev pub IsOfClaims : MissingFault → Type 0
IsOfClaims fault.Head = ⊤
IsOfClaims (fault.Claims claim.Read) = ⊥
IsOfClaims (fault.Claims (claim.Memory _)) = ⊥
IsOfClaims (fault.Claims e) = ⊤
IsOfClaims e = ⊥

-- faults that the bytes of the log decide
abbrev pub IsOfLog : MissingFault → Type 0
IsOfLog (fault.Log e) = IsOfInput e
IsOfLog e = ⊥

-- how many reads failed, after this answer to one more
abbrev pub reads_failed : {A : Type 0} → Result A MissingFault → ℕ → ℕ
reads_failed (Err (fault.Claims claim.Read)) n = one_more n
reads_failed (Err (fault.Log e)) n = failures_after {A = Unit {0}} (Err e) n
reads_failed r n = n

-- ---- what is written

-- if the claims and the log are told
abbrev pub OnBoth : Option (List ℕ) → Option (List ℕ) → (List ℕ → List ℕ → Type 0) → Type 0
OnBoth claims log P = IfSome claims (λ heard. IfSome log (λ bytes. P heard bytes))

-- the operations of a log that who claims this lacks
abbrev pub lacked : List ℕ → Summary → List Op
lacked log peer = missing (log_content log) peer

-- a line of each
abbrev pub lacked_text : List ℕ → Summary → List ℕ
lacked_text log peer = log_text (lacked log peer)

module _ {W : Type 0} (contents : W → Option (List ℕ)) (old new : Calls W) where
  -- what the claims lack was written: a log that stands for the content of so many operations
  pub record WritesMissing (claims log : List ℕ) (number : ℕ) : Type 0 where
    pub peer : Summary
    pub heard : claims_heard claims ≡ Ok peer
    pub readable : IsReadable log
    pub count : number ≡ length (lacked log peer)
    pub written : Writes contents old new (lacked_text log peer)
    pub stands : StandsFor (lacked_text log peer) (content_of (lacked log peer))

  -- a beginning of it was written
  pub record BeginsMissing (claims log : List ℕ) : Type 0 where
    pub peer : Summary
    pub heard : claims_heard claims ≡ Ok peer
    pub readable : IsReadable log
    pub begun : WritesFront contents old new (lacked_text log peer)
