-- What is told of the text that stands beside a log.
use Rattle.std.proofs.Common.{◌≡◌, ◌≢◌, ℕ, List, Option, Result, Ok, Err, sym, subst, inl, inr}
use Rattle.std.specs.Prelude.{IfSome, IfErr}
use Rattle.std.proofs.lemmas.Option.{IfSome_then}
use Rattle.rga_ops.specs.Content.{Content}
use Rattle.rga_exchange.specs.declared.log.LogRead.{LogRead}
use Rattle.mgr_show.specs.Shown.{log_content, shown_bytes}
use Rattle.mgr_show.specs.Stored.{IsRead}
use Rattle.mgr_show.specs.declared.fault.ShowFault.{ShowFault}
use Rattle.mgr_show.specs.declared.fault.ShowFault.TheVariants.{Write}
use Rattle.mgr_show.specs.Memory.{ShowMemory as Memory}
use Rattle.mgr_show.specs.Numbers.{failures_of_look, text_is, FailedReads}
use Rattle.mgr_show.specs.declared.numbers.TextIs.{TextIs}
use Rattle.mgr_show.specs.declared.numbers.TextIs.TheVariants.{Unread}

-- the text that stands beside a log is looked at by what the log leads to
pub text_beside : (read_at log before after : Option (List ℕ)) (is : TextIs) (c : Content) (read : LogRead) → read_at ≡ log → after ≡ before → IfSome read_at (λ bytes. IsRead bytes c read) → (is ≢ Unread → IfSome after (λ t. is ≡ text_is t (shown_bytes c)))
    → is ≢ Unread → IfSome log (λ bytes. IfSome before (λ t. is ≡ text_is t (shown_bytes (log_content bytes))))
text_beside read_at log before after is c read named same h looked seen =
    IfSome_then log (subst (λ log. IfSome log (λ b. IsRead b c read)) named h) (λ bytes held.
    subst (λ text. IfSome text (λ t. is ≡ text_is t (shown_bytes (log_content bytes)))) same
    (subst (λ d. IfSome after (λ t. is ≡ text_is t (shown_bytes d))) held.content (looked seen)))

-- what fails after it was looked at is no fault of a file
pub memory_after_look : (is : TextIs) (failed failing : ℕ) → failing ≡ failures_of_look is failed → FailedReads Memory failed failing
memory_after_look Unread failed failing h = inr ((λ a. a), h)
memory_after_look is failed failing h = inl h

write_after_look : (is : TextIs) (failed failing : ℕ) → failing ≡ failures_of_look is failed → FailedReads Write failed failing
write_after_look Unread failed failing h = inr ((λ a. a), h)
write_after_look is failed failing h = inl h

pub write_failed : {A : Type 0} (written : Result A ShowFault) (is : TextIs) (failed failing : ℕ) → failing ≡ failures_of_look is failed → IfErr written (λ e. e ≡ Write) → IfErr written (λ e. FailedReads e failed failing)
write_failed (Ok _) is failed failing looked fault = tt
write_failed (Err e) is failed failing looked fault = subst (λ f. FailedReads f failed failing) (sym fault) (write_after_look is failed failing looked)
