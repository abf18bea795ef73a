-- What is written of an accepted log.
use Rattle.std.proofs.Common.{◌≡◌, ℕ, ◌+◌, List, Option, Result, Ok, Err, refl, sym, ap, subst, ◌∙◌, inr}
use Rattle.std.specs.Prelude.{IfErr, IfSome, ◌⊎◌}
use Rattle.std.proofs.lemmas.Option.{IfSome_then}
use Rattle.rga_ops.specs.Content.{Content, nothing}
use Rattle.rga_ops.specs.Answer.{taken_one_by_one}
use Rattle.rga_ops.proofs.TakenLaws.{taken_from_nothing, taken_list_agrees}
use Rattle.rga_ops.specs.declared.refusal.Refusal.{Refusal}
use Rattle.rga_store.specs.Kept.{Kept}
use Rattle.rga_store.specs.declared.text_store.TheConstants.{MAX_LIMIT}
use Rattle.rga_exchange.specs.Counting.{Calls, Writes, WritesFront, WritesNothing}
use Rattle.rga_lines.specs.Log.{log_operations}
use Rattle.rga_lines.specs.Stream.{lines_of}
use Rattle.rga_exchange.specs.declared.fault.LogFault.{LogFault}
use Rattle.rga_exchange.specs.declared.log.LogEnd.{LogEnd}
use Rattle.rga_exchange.specs.declared.log.LogEnd.TheVariants.{Torn}
use Rattle.rga_exchange.specs.declared.log.LogRead.{LogRead}
use Rattle.rga_exchange.specs.Taking.{AreTaken, Intake, content_intake, HasTakenWholeLines}
use Rattle.rga_exchange.specs.declared.taking.Form.TheVariants.{Log}
use Rattle.rga_exchange.specs.Log.{LogOutcome, log_outcome}
use Rattle.rga_exchange.specs.Stops.{HasNothingTorn}
use Rattle.rga_exchange.proofs.OperationLaws.{log_taken}
use Rattle.mgr_show.specs.declared.fault.ShowFault.{ShowFault}
use Rattle.mgr_show.specs.declared.fault.ShowFault.TheVariants as fault
use Rattle.mgr_show.specs.Log.{ShowOutcome, show_fault, at_end, outcome_of, shown_from, log_of}
use Rattle.mgr_show.specs.Shown.{shown_bytes, log_content, IsAccepted, ShowsLog, BeginsToShow}

abbrev pub shows_it : Content → ShowOutcome
shows_it c = Ok c

abbrev pub outcome : Content → Result LogRead LogFault → LogOutcome
outcome c r = (c, r)

abbrev pub fails : ShowFault → ShowOutcome
fails e = Err e

-- a log that is accepted was read to its end, and nothing was torn off
pub read_to_end : (limit : ℕ) (start c : Content) (bytes : List ℕ) → shown_from limit start bytes ≡ Ok c → (read : LogRead) × (log_outcome limit start bytes ≡ (c, Ok read)) × HasNothingTorn read.end
read_to_end limit start c bytes h = by_outcome (log_outcome limit start bytes) refl h
  where
    by_end : (d : Content) (n : ℕ) (end : LogEnd) → at_end d n end ≡ Ok c → (d ≡ c) × HasNothingTorn end
    by_end d n (Torn k) h = let clash : fails (fault.Torn (n + 1)) ≡ shows_it c = h in absurd cc
    by_end d n end h = let same : shows_it d ≡ shows_it c = h in let is : d ≡ c = cc in (is, tt)

    by_result : (d : Content) (r : Result LogRead LogFault) → outcome_of d r ≡ Ok c → (read : LogRead) × (outcome d r ≡ (c, Ok read)) × HasNothingTorn read.end
    by_result d (Ok read) h = let ended = by_end d read.lines read.end h in (read, ap (λ e. outcome e (Ok read)) ended.0, ended.1)
    by_result d (Err e) h = let clash : fails (show_fault e) ≡ shows_it c = h in absurd cc

    by_outcome : (p : LogOutcome) → log_outcome limit start bytes ≡ p → outcome_of p.0 p.1 ≡ Ok c → (read : LogRead) × (log_outcome limit start bytes ≡ (c, Ok read)) × HasNothingTorn read.end
    by_outcome (d, r) is h = let w = by_result d r h in (w.0, is ∙ w.1, w.2)

-- and one that is read so is accepted
pub read_is_accepted : (limit : ℕ) (start c : Content) (bytes : List ℕ) (read : LogRead) → log_outcome limit start bytes ≡ (c, Ok read) → HasNothingTorn read.end → shown_from limit start bytes ≡ Ok c
read_is_accepted limit start c bytes read is whole = ap (λ (p : LogOutcome). outcome_of p.0 p.1) is ∙ by_end read.end whole
  where
    by_end : (end : LogEnd) → HasNothingTorn end → at_end c read.lines end ≡ Ok c
    by_end (Torn k) whole = absurd whole
    by_end end whole = refl

-- its operations were taken one by one
pub accepted_taken : (limit : ℕ) (start c : Content) (bytes : List ℕ) → shown_from limit start bytes ≡ Ok c → taken_one_by_one limit start (log_operations bytes) ≡ Ok c
accepted_taken limit start c bytes h =
    let w = read_to_end limit start c bytes h in
    log_taken limit start c w.0 bytes w.1

-- the content that a log stands for, of a store that took it from the start
pub record IsContentOf (bytes : List ℕ) (c : Content) : Type 0 where
  pub accepted : IsAccepted bytes
  pub is : c ≡ log_content bytes

content_of_log : (bytes : List ℕ) (c : Content) → log_of MAX_LIMIT bytes ≡ Ok c → IsContentOf bytes c
content_of_log bytes c h =
    let taken = accepted_taken MAX_LIMIT nothing c bytes h in
    let content : c ≡ log_content bytes = taken_from_nothing MAX_LIMIT (log_operations bytes) c taken in
    record { accepted = record { agreed = taken_list_agrees MAX_LIMIT nothing (log_operations bytes) c taken; content = h ∙ ap Ok content }; is = content }

pub content_of_input : (known : Option (List ℕ)) (limit : ℕ) (start c : Content) → limit ≡ MAX_LIMIT → start ≡ nothing
    → IfSome known (λ bytes. shown_from limit start bytes ≡ Ok c) → IfSome known (λ bytes. IsContentOf bytes c)
content_of_input known limit start c same empty h = IfSome_then known h (λ bytes taken. content_of_log bytes c (sym (λ k. shown_from (same k) (empty k) bytes) ∙ taken))

abbrev made : Kept → Result Kept Refusal
made v = Ok v

-- records of nothing, which a log is read into
pub made_of_nothing : (v : Kept) → made v ≡ made (record { content = nothing; limit = MAX_LIMIT }) → (v.content ≡ nothing) × (v.limit ≡ MAX_LIMIT)
made_of_nothing v h =
    let same : v ≡ record { content = nothing; limit = MAX_LIMIT } = cc in
    (ap (λ (k : Kept). k.content) same, ap (λ (k : Kept). k.limit) same)

-- what holds of the fault holds of an answer that is it
pub at_err : {A E : Type 0} (P : E → Type 0) (r : Result A E) (e : E) → r ≡ Err e → P e → IfErr r P
at_err P r e is h = subst (λ answer. IfErr answer P) (sym is) h

-- an answer that is a failed read is that of the call that it comes of
pub read_failed : {A : Type 0} (r : Result A ShowFault) (e : ShowFault) → (p : ShowFault) × (r ≡ Err p) × (p ≡ e) → r ≡ Err fault.Read → e ≡ fault.Read
read_failed {A} r e (p, is, one) read = sym one ∙ subst (λ (q : Result A ShowFault). IfErr q (λ f. f ≡ fault.Read)) (sym read ∙ is) refl

module _ {W : Type 0} (contents : W → Option (List ℕ)) where
  pub shows : (known : Option (List ℕ)) (old new : Calls W) (c : Content) (written : List ℕ) → IfSome known (λ bytes. IsContentOf bytes c) → written ≡ shown_bytes c → Writes contents old new written → IfSome known (λ bytes. ShowsLog contents old new bytes)
  shows known old new c written h is w = IfSome_then known h (λ bytes own. record { accepted = own.accepted; written = subst (Writes contents old new) (is ∙ ap shown_bytes own.is) w })

  pub begins_to_show : (known : Option (List ℕ)) (old new : Calls W) (c : Content) (written : List ℕ) → IfSome known (λ bytes. IsContentOf bytes c) → written ≡ shown_bytes c → WritesFront contents old new written → IfSome known (λ bytes. WritesNothing contents old new ⊎ BeginsToShow contents old new bytes)
  begins_to_show known old new c written h is w = IfSome_then known h (λ bytes own. inr (record { accepted = own.accepted; begun = subst (WritesFront contents old new) (is ∙ ap shown_bytes own.is) w }))

-- all whole lines that were read were taken, by a store that was made empty
pub whole_from : {R : Type 0} {remaining : R → Option (List ℕ)} {r s : Calls R} {took : Intake} → took.limit ≡ MAX_LIMIT → took.old ≡ nothing → HasTakenWholeLines Log remaining r s took → (c : Content) × HasTakenWholeLines Log remaining r s (content_intake MAX_LIMIT nothing c)
whole_from {R} {remaining} {r} {s} {took} same empty h = (
  took.new,
  record {
    bytes = h.bytes;
    read = h.read;
    taken = subst (λ l. AreTaken l (lines_of h.bytes) nothing took.new) same (subst (λ e. AreTaken took.limit (lines_of h.bytes) e took.new) empty h.taken);
    beside = tt;
  },
)
