-- What is written of an accepted log that is compacted.
use Rattle.std.proofs.Common.{◌≡◌, ℕ, Bool, ◌||◌, List, [], Option, Some, None, Result, Ok, Err, subst, inr}
use Rattle.std.specs.Prelude.{IfSome, OnErr, ◌⊎◌}
use Rattle.rga_ops.specs.Content.{Content}
use Rattle.rga_exchange.specs.Counting.{Calls, Writes, WritesFront, WritesNothing}
use Rattle.rga_lines.specs.Stream.{rest_of}
use Rattle.rga_exchange.specs.DeletionRuns.{has_deletion_runs}
use Rattle.rga_exchange.specs.Sending.{StandsFor}
use Rattle.rga_exchange.specs.Compacting.{compact_text}
use Rattle.mgr_show.specs.Compacted.{compacted, Compacts, BeginsToCompact}
use Rattle.mgr_show.specs.Shown.{log_content}
use Rattle.mgr_show.proofs.ShownLaws.{IsContentOf}

module _ {W : Type 0} (contents : W → Option (List ℕ)) where
  -- the lines of its content, with runs of deletions where the log has some or they are asked for
  pub compacts : (known : Option (List ℕ)) (old new : Calls W) (dels runs : Bool) (c : Content) → IfSome known (λ bytes. IsContentOf bytes c) → IfSome known (λ bytes. runs ≡ (dels || has_deletion_runs bytes))
      → StandsFor (compact_text runs c) c → rest_of (compact_text runs c) ≡ [] → Writes contents old new (compact_text runs c) → IfSome known (λ bytes. Compacts contents old new dels bytes)
  compacts None old new dels runs c h is stands ended w = tt
  compacts (Some bytes) old new dels runs c h is stands ended w =
      let text : compact_text runs c ≡ compacted dels bytes = (λ k. compact_text (is k) (h.is k)) in
      record {
        keeps = record {
          accepted = h.accepted;
          stands = subst (λ (l : List ℕ). StandsFor l (log_content bytes)) text (subst (StandsFor (compact_text runs c)) h.is stands);
          ended = subst (λ (l : List ℕ). rest_of l ≡ []) text ended;
        };
        written = subst (Writes contents old new) text w;
      }

  pub begins_to_compact : (known : Option (List ℕ)) (old new : Calls W) (dels runs : Bool) (c : Content) → IfSome known (λ bytes. IsContentOf bytes c) → IfSome known (λ bytes. runs ≡ (dels || has_deletion_runs bytes))
      → WritesFront contents old new (compact_text runs c) → IfSome known (λ bytes. WritesNothing contents old new ⊎ BeginsToCompact contents old new dels bytes)
  begins_to_compact None old new dels runs c h is w = tt
  begins_to_compact (Some bytes) old new dels runs c h is w =
      inr (record { accepted = h.accepted; begun = subst (WritesFront contents old new) (λ k. compact_text (is k) (h.is k)) w })
