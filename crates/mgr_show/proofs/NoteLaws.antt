-- What is shown of the log of a note.
use Rattle.std.proofs.Common.{◌≡◌, ℕ, List, [], ◌∷◌, Option, Some, None, Result, Ok, Err, refl, ap, subst, ◌∙◌}
use Rattle.std.specs.Prelude.{IfSome}
use Rattle.rga_ops.specs.Content.{Content, nothing}
use Rattle.rga_ops.proofs.TakenLaws.{taken_from_nothing, taken_list_agrees}
use Rattle.rga_store.specs.declared.text_store.TheConstants.{MAX_LIMIT}
use Rattle.rga_lines.specs.Log.{log_operations}
use Rattle.rga_exchange.specs.declared.fault.LogFault.{LogFault}
use Rattle.rga_exchange.specs.declared.log.LogRead.{LogRead}
use Rattle.rga_exchange.specs.Log.{LogOutcome, log_outcome}
use Rattle.rga_exchange.proofs.OperationLaws.{log_taken}
use Rattle.mgr_show.specs.Log.{show_fault}
use Rattle.mgr_show.specs.Shown.{shown_bytes, log_content}
use Rattle.mgr_show.specs.Note.{first_lines, front_of, but_torn, note_from, note_of, IsReadable}
use Rattle.mgr_show.proofs.ShownLaws.{shows_it, outcome, fails}

pub no_lines : (bytes : List ℕ) → first_lines 0 bytes ≡ []
no_lines [] = refl
no_lines (b ∷ bytes) = refl

-- a log that is readable was read to its end
pub note_read : (limit : ℕ) (start c : Content) (bytes : List ℕ) → note_from limit start bytes ≡ Ok c → (read : LogRead) × (log_outcome limit start bytes ≡ (c, Ok read))
note_read limit start c bytes h = by_outcome (log_outcome limit start bytes) refl h
  where
    by_result : (d : Content) (r : Result LogRead LogFault) → but_torn d r ≡ Ok c → (read : LogRead) × (outcome d r ≡ (c, Ok read))
    by_result d (Ok read) h = let same : shows_it d ≡ shows_it c = h in let is : d ≡ c = cc in (read, ap (λ e. outcome e (Ok read)) is)
    by_result d (Err e) h = let clash : fails (show_fault e) ≡ shows_it c = h in absurd cc

    by_outcome : (p : LogOutcome) → log_outcome limit start bytes ≡ p → but_torn p.0 p.1 ≡ Ok c → (read : LogRead) × (log_outcome limit start bytes ≡ (c, Ok read))
    by_outcome (d, r) is h = let w = by_result d r h in (w.0, is ∙ w.1)

-- what it leads to is the content of its operations
pub content_of_note : (bytes : List ℕ) (c : Content) → note_of MAX_LIMIT bytes ≡ Ok c → IsReadable bytes × (c ≡ log_content bytes)
content_of_note bytes c h =
    let w = note_read MAX_LIMIT nothing c bytes h in
    let taken = log_taken MAX_LIMIT nothing c w.0 bytes w.1 in
    let content : c ≡ log_content bytes = taken_from_nothing MAX_LIMIT (log_operations bytes) c taken in
    (record { agreed = taken_list_agrees MAX_LIMIT nothing (log_operations bytes) c taken; content = h ∙ ap Ok content }, content)

-- the text of known bytes, whose front was taken by a store that was made empty
pub text_of_front : (known : Option (List ℕ)) (lines : Option ℕ) (read front : List ℕ) (limit : ℕ) (start c : Content) (written : List ℕ) → IfSome known (λ bytes. read ≡ bytes) → front ≡ front_of lines read → limit ≡ MAX_LIMIT → start ≡ nothing
    → note_from limit start front ≡ Ok c → written ≡ shown_bytes c → IfSome known (λ bytes. IsReadable (front_of lines bytes) × (written ≡ shown_bytes (log_content (front_of lines bytes))))
text_of_front None lines read front limit start c written same cut fits empty h is = tt
text_of_front (Some bytes) lines read front limit start c written same cut fits empty h is =
    let all : front ≡ front_of lines bytes = cut ∙ ap (front_of lines) same in
    let w = content_of_note (front_of lines bytes) c (subst (λ l. note_from l nothing (front_of lines bytes) ≡ Ok c) fits (subst (λ e. note_from limit e (front_of lines bytes) ≡ Ok c) empty (subst (λ f. note_from limit start f ≡ Ok c) all h))) in
    (w.0, is ∙ ap shown_bytes w.1)
