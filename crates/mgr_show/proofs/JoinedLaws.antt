-- What is written of accepted logs that are joined.
use Rattle.std.proofs.Common.{◌≡◌, ℕ, ◌+◌, Bool, true, false, List, [], ◌∷◌, Option, Some, None, Result, Ok, Err, refl, ap, subst, ◌∙◌, inl, inr, arith}
use Rattle.std.specs.Prelude.{IfErr, IfSome, ◌⊎◌, if◌then◌else◌}
use Rattle.std.specs.List.{list_any}
use Rattle.rga_ops.specs.Content.{Content, nothing, content_of}
use Rattle.rga_ops.specs.Answer.{taken_one_by_one}
use Rattle.rga_ops.proofs.TakenLaws.{taken_from_nothing, taken_list_agrees, one_by_one-append}
use Rattle.rga_store.specs.declared.text_store.TheConstants.{MAX_LIMIT}
use Rattle.rga_exchange.specs.Counting.{Calls, Writes, WritesFront, WritesNothing}
use Rattle.rga_lines.specs.Log.{log_operations}
use Rattle.rga_lines.specs.Stream.{rest_of}
use Rattle.rga_exchange.specs.DeletionRuns.{has_deletion_runs}
use Rattle.rga_exchange.specs.Sending.{StandsFor}
use Rattle.rga_exchange.specs.Compacting.{compact_text}
use Rattle.mgr_show.specs.declared.fault.JoinFault.{JoinFault}
use Rattle.mgr_show.specs.declared.fault.JoinFault.TheVariants as join
use Rattle.mgr_show.specs.Log.{ShowOutcome, shown_from}
use Rattle.mgr_show.specs.Joined.{JoinOutcome, has_far_counter, then_joined, joined_from, unless_far, join_of, all_operations, join_text, IsOfLog, AreAccepted, Joins, BeginsToJoin}
use Rattle.mgr_show.proofs.ShownLaws.{accepted_taken, at_err}

abbrev pub joins_to : Content → JoinOutcome
joins_to c = Ok c

abbrev pub stops_at : JoinFault → JoinOutcome
stops_at e = Err e

-- ---- counters that are far

abbrev pub far_or : Bool → Content → JoinOutcome
far_or far c = if far then Err join.Far else Ok c

-- what was taken is joined if no counter is far, and else refused
pub near_joined : (c : Content) (far : Bool) → has_far_counter c ≡ far → unless_far (Ok c) ≡ far_or far c
near_joined c far is = ap (λ b. far_or b c) is

-- what is joined was taken, and no counter is far
pub joined_near : (r : JoinOutcome) (c : Content) → unless_far r ≡ Ok c → (r ≡ Ok c) × (has_far_counter c ≡ false)
joined_near (Err e) c h = grind (arith, h)
joined_near (Ok d) c h = grind (arith, h)

-- All was taken, and a counter is far.
pub record IsTakenFar (r : JoinOutcome) (e : JoinFault) : Type 0 where
  pub content : Content
  pub taken : r ≡ Ok content
  pub far : has_far_counter content ≡ true
  pub named : e ≡ join.Far

-- what is refused was refused before, or a counter is far
pub refused_or_far : (r : JoinOutcome) (e : JoinFault) → unless_far r ≡ Err e → (r ≡ Err e) ⊎ IsTakenFar r e
refused_or_far (Err x) e h = inl h
refused_or_far (Ok d) e h = by_far (has_far_counter d) refl h
  where
    by_far : (far : Bool) → has_far_counter d ≡ far → far_or far d ≡ Err e → (joins_to d ≡ Err e) ⊎ IsTakenFar (Ok d) e
    by_far true is g =
        let same : stops_at join.Far ≡ stops_at e = g in
        inr (record { content = d; taken = refl; far = is; named = cc })
    by_far false is g = let clash : joins_to d ≡ stops_at e = g in absurd cc

-- ---- logs that are taken

-- the first of logs that are accepted is, and so are those behind it
pub first_joined : (limit n : ℕ) (c d : Content) (bytes : List ℕ) (logs : List (List ℕ)) → joined_from limit n c (bytes ∷ logs) ≡ Ok d → (e : Content) × (shown_from limit c bytes ≡ Ok e) × (joined_from limit (n + 1) e logs ≡ Ok d)
first_joined limit n c d bytes logs h = by_first (shown_from limit c bytes) refl h
  where
    by_first : (r : ShowOutcome) → shown_from limit c bytes ≡ r → then_joined n r (λ e. joined_from limit (n + 1) e logs) ≡ Ok d → (e : Content) × (shown_from limit c bytes ≡ Ok e) × (joined_from limit (n + 1) e logs ≡ Ok d)
    by_first (Ok e) is g = (e, is, g)
    by_first (Err x) is g = let clash : stops_at (join.Log n x) ≡ joins_to d = g in absurd cc

-- all operations were taken one by one
pub joined_taken : (limit n : ℕ) (c d : Content) (logs : List (List ℕ)) → joined_from limit n c logs ≡ Ok d → taken_one_by_one limit c (all_operations logs) ≡ Ok d
joined_taken limit n c d [] h = grind (arith, h)
joined_taken limit n c d (bytes ∷ logs) h =
    let w = first_joined limit n c d bytes logs h in
    one_by_one-append limit c w.0 (log_operations bytes) (all_operations logs) (accepted_taken limit c w.0 bytes w.1) ∙ joined_taken limit (n + 1) w.0 d logs w.2

-- the content that logs stand for, of a store that took them from the start
pub record IsJoinOf (logs : List (List ℕ)) (c : Content) : Type 0 where
  pub accepted : AreAccepted logs
  pub is : c ≡ content_of (all_operations logs)

pub join_of_logs : (logs : List (List ℕ)) (c : Content) → join_of MAX_LIMIT logs ≡ Ok c → IsJoinOf logs c
join_of_logs logs c h =
    let taken = joined_taken MAX_LIMIT 0 nothing c logs (joined_near (joined_from MAX_LIMIT 0 nothing logs) c h).0 in
    let content : c ≡ content_of (all_operations logs) = taken_from_nothing MAX_LIMIT (all_operations logs) c taken in
    record { accepted = record { agreed = taken_list_agrees MAX_LIMIT nothing (all_operations logs) c taken; content = h ∙ ap Ok content }; is = content }

-- of what a store took that was made empty
module _ (known : Option (List (List ℕ))) (limit : ℕ) (start : Content) (same : limit ≡ MAX_LIMIT) (empty : start ≡ nothing) where
  -- what it leads to if no counter is far, if one is, or if a log was refused
  outcome_of_input : (r : JoinOutcome) → IfSome known (λ logs. joined_from limit 0 start logs ≡ r) → IfSome known (λ logs. join_of MAX_LIMIT logs ≡ unless_far r)
  outcome_of_input r = by_known known
    where
      by_known : (o : Option (List (List ℕ))) → IfSome o (λ logs. joined_from limit 0 start logs ≡ r) → IfSome o (λ logs. join_of MAX_LIMIT logs ≡ unless_far r)
      by_known None h = tt
      by_known (Some logs) h = ap unless_far (subst (λ l. joined_from l 0 nothing logs ≡ r) same (subst (λ e. joined_from limit 0 e logs ≡ r) empty h))

  pub join_of_input : (c : Content) → has_far_counter c ≡ false → IfSome known (λ logs. joined_from limit 0 start logs ≡ Ok c) → IfSome known (λ logs. IsJoinOf logs c)
  join_of_input c near h = by_known known (outcome_of_input (Ok c) h)
    where
      by_known : (o : Option (List (List ℕ))) → IfSome o (λ logs. join_of MAX_LIMIT logs ≡ unless_far (Ok c)) → IfSome o (λ logs. IsJoinOf logs c)
      by_known None g = tt
      by_known (Some logs) g = join_of_logs logs c (g ∙ near_joined c false near)

  pub far_of_input : (c : Content) → has_far_counter c ≡ true → IfSome known (λ logs. joined_from limit 0 start logs ≡ Ok c) → IfSome known (λ logs. join_of MAX_LIMIT logs ≡ Err join.Far)
  far_of_input c far h = subst (λ (r : JoinOutcome). IfSome known (λ logs. join_of MAX_LIMIT logs ≡ r)) (near_joined c true far) (outcome_of_input (Ok c) h)

  pub refused_of_input : {A : Type 0} (r : Result A JoinFault) (x : JoinFault) → (e : JoinFault) × (r ≡ Err e) × (e ≡ x) → (IsOfLog x → IfSome known (λ logs. joined_from limit 0 start logs ≡ Err x)) → IfErr r (λ e. IsOfLog e → IfSome known (λ logs. join_of MAX_LIMIT logs ≡ Err e))
  refused_of_input r x (e, is, one) h = at_err (λ f. IsOfLog f → IfSome known (λ logs. join_of MAX_LIMIT logs ≡ Err f)) r x (is ∙ ap Err one) (λ own. outcome_of_input (Err x) (h own))

module _ {W : Type 0} (contents : W → Option (List ℕ)) where
  pub joins : (known : Option (List (List ℕ))) (old new : Calls W) (runs : Bool) (c : Content) → IfSome known (λ logs. IsJoinOf logs c) → IfSome known (λ logs. runs ≡ list_any has_deletion_runs logs)
      → StandsFor (compact_text runs c) c → rest_of (compact_text runs c) ≡ [] → Writes contents old new (compact_text runs c) → IfSome known (λ logs. Joins contents old new logs)
  joins None old new runs c h is stands ended w = tt
  joins (Some logs) old new runs c h is stands ended w =
      let text : compact_text runs c ≡ join_text logs = (λ k. compact_text (is k) (h.is k)) in
      record {
        accepted = h.accepted;
        stands = subst (λ (l : List ℕ). StandsFor l (content_of (all_operations logs))) text (subst (StandsFor (compact_text runs c)) h.is stands);
        ended = subst (λ (l : List ℕ). rest_of l ≡ []) text ended;
        written = subst (Writes contents old new) text w;
      }

  pub begins_to_join : (known : Option (List (List ℕ))) (old new : Calls W) (runs : Bool) (c : Content) → IfSome known (λ logs. IsJoinOf logs c) → IfSome known (λ logs. runs ≡ list_any has_deletion_runs logs)
      → WritesFront contents old new (compact_text runs c) → IfSome known (λ logs. WritesNothing contents old new ⊎ BeginsToJoin contents old new logs)
  begins_to_join None old new runs c h is w = tt
  begins_to_join (Some logs) old new runs c h is w =
      inr (record { accepted = h.accepted; begun = subst (WritesFront contents old new) (λ k. compact_text (is k) (h.is k)) w })
