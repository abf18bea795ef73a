-- What is written of the claims of a log.
use Rattle.std.proofs.Common.{◌≡◌, ℕ, List, Option, subst, ◌∙◌, inr}
use Rattle.std.specs.Prelude.{IfSome, ◌⊎◌}
use Rattle.std.proofs.lemmas.Option.{IfSome_then}
use Rattle.rga_ops.specs.Content.{Content}
use Rattle.rga_exchange.specs.Counting.{Calls, Writes, WritesFront, WritesNothing}
use Rattle.rga_exchange.specs.declared.log.LogRead.{LogRead}
use Rattle.rga_brief.specs.Told.{IsTold}
use Rattle.mgr_show.specs.Shown.{log_content}
use Rattle.mgr_show.specs.Stored.{IsRead}
use Rattle.mgr_show.specs.Claims.{AreClaimsOf, TellsClaims, BeginsToTell}

-- as they were made, of the content of the log's operations
claims_of_log : (c d : Content) (text written : List ℕ) → c ≡ d → written ≡ text → AreClaimsOf text c → AreClaimsOf written d
claims_of_log c d text written same is claims = record { lines = claims.lines; is = is ∙ claims.is; told = subst (IsTold claims.lines) same claims.told }

module _ {W : Type 0} (contents : W → Option (List ℕ)) where
  pub tells : (known : Option (List ℕ)) (old new : Calls W) (c : Content) (read : LogRead) (text written : List ℕ) → IfSome known (λ bytes. IsRead bytes c read) → written ≡ text → AreClaimsOf text c → Writes contents old new written
      → IfSome known (λ bytes. TellsClaims contents old new bytes)
  tells known old new c read text written h is claims w =
      IfSome_then known h (λ bytes own. record { readable = own.readable; text = written; claims = claims_of_log c (log_content bytes) text written own.content is claims; written = w })

  pub begins_to_tell : (known : Option (List ℕ)) (old new : Calls W) (c : Content) (read : LogRead) (text written : List ℕ) → IfSome known (λ bytes. IsRead bytes c read) → written ≡ text → AreClaimsOf text c → WritesFront contents old new written
      → IfSome known (λ bytes. WritesNothing contents old new ⊎ BeginsToTell contents old new bytes)
  begins_to_tell known old new c read text written h is claims w =
      IfSome_then known h (λ bytes own. inr (record { readable = own.readable; text = written; claims = claims_of_log c (log_content bytes) text written own.content is claims; begun = w }))
