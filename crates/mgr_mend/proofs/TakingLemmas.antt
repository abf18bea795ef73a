-- Logs that are taken in turn.
use Rattle.std.proofs.Common.{◌≡◌, ℕ, ◌+◌, Bool, true, false, not, ◌&&◌, if◌then◌else◌, List, [], ◌∷◌, ◌++◌, Option, Some, None, Ok, Err, refl, sym, ap, subst, ◌∙◌, append_assoc}
use Rattle.std.specs.Prelude.{IfSome}
use Rattle.std.specs.List.{list_any}
use Rattle.rga_ops.specs.Answer.{taken_one_by_one}
use Rattle.rga_ops.specs.Content.{Content}
use Rattle.rga_ops.proofs.TakenLaws.{one_by_one-append}
use Rattle.rga_lines.specs.Log.{log_operations}
use Rattle.rga_exchange.proofs.OperationLaws.{log_taken}
use Rattle.rga_exchange.specs.declared.log.LogRead.{LogRead}
use Rattle.rga_exchange.specs.Log.{LogOutcome, log_outcome}
use Rattle.mgr_show.specs.Log.{show_fault}
use Rattle.mgr_show.specs.Joined.{all_operations, in_front, is_far}
use Rattle.mgr_show.proofs.LeftLogLemmas.{is_split, if_told}
use Rattle.mgr_mend.specs.Merging.{IsOfLogs}
use Rattle.mgr_mend.specs.Taking.{LogsTaken, logs_taken, MergeOutcome, torn_at, is_apart, after_log, log_merged, after_torn, then_merged, merged_from}
use Rattle.mgr_mend.specs.declared.merged.Torn.{Torn}
use Rattle.mgr_mend.specs.declared.fault.MergeFault.{MergeFault}
use Rattle.mgr_mend.specs.declared.fault.MergeFault.TheVariants.{Log, Apart, Far}

abbrev takes : LogsTaken → MergeOutcome
takes t = Ok t

abbrev stops : MergeFault → MergeOutcome
stops e = Err e

-- ---- what is left behind the first n logs

after_more : (torn more : List Torn) (r : MergeOutcome) → after_torn torn (after_torn more r) ≡ after_torn (torn ++ more) r
after_more torn more (Ok t) = ap (λ l. takes (logs_taken t.content l)) (sym (append_assoc torn more t.torn))
after_more torn more (Err e) = refl

after_none : (r : MergeOutcome) → r ≡ after_torn [] r
after_none (Ok t) = refl
after_none (Err e) = refl

module _ (adopt : Bool) (clock limit : ℕ) (start : Content) where
  -- Of the logs those that are left are told too. They lead from here, behind n others, to what all lead to from the start.
  pub record LeadsLeft (now : Content) (n : ℕ) (torn : List Torn) (left : Option (List (List ℕ))) (logs : List (List ℕ)) : Type 0 where
    pub rest : List (List ℕ)
    pub told : left ≡ Some rest
    pub outcome : merged_from adopt clock limit 0 start logs ≡ after_torn torn (merged_from adopt clock limit n now rest)

  pub leads_none : (all : Option (List (List ℕ))) {torn : List Torn} → torn ≡ [] → IfSome all (LeadsLeft start 0 torn all)
  leads_none None none = tt
  leads_none (Some logs) none = record { rest = logs; told = refl; outcome = after_none (merged_from adopt clock limit 0 start logs) ∙ ap (λ t. after_torn t (merged_from adopt clock limit 0 start logs)) (sym none) }

  -- One log is next, of which the bytes are known as at the start; so it is with the limit and the clock.
  module _ (own own_clock : ℕ) (now : Content) (n : ℕ) (torn : List Torn) (first known : Option (List ℕ)) (left later : Option (List (List ℕ))) (same_limit : own ≡ limit) (same_clock : own_clock ≡ clock) (same : known ≡ first) (split : left ≡ in_front first later) where
    here : (r : MergeOutcome) (bytes : List ℕ) → first ≡ Some bytes → IfSome known (λ bytes. log_merged adopt own_clock own n now bytes ≡ r) → log_merged adopt clock limit n now bytes ≡ r
    here r bytes told h =
        subst (λ k. log_merged adopt k limit n now bytes ≡ r) same_clock
        (subst (λ l. log_merged adopt own_clock l n now bytes ≡ r) same_limit (if_told (λ bytes. log_merged adopt own_clock own n now bytes ≡ r) known bytes (same ∙ told) h))

    -- it was taken
    pub leads_next : (next : Content) (more sum : List Torn) (all : Option (List (List ℕ))) → sum ≡ torn ++ more → IfSome all (LeadsLeft now n torn left)
        → IfSome known (λ bytes. log_merged adopt own_clock own n now bytes ≡ Ok (logs_taken next more)) → IfSome all (LeadsLeft next (n + 1) sum later)
    leads_next next more sum None is h taken = tt
    leads_next next more sum (Some logs) is h taken =
        let w = is_split first later h.rest (sym split ∙ h.told) in
        record {
          rest = w.others;
          told = w.later_told;
          outcome = h.outcome
              ∙ ap (λ l. after_torn torn (merged_from adopt clock limit n now l)) w.whole
              ∙ ap (λ r. after_torn torn (then_merged r (λ d. merged_from adopt clock limit (n + 1) d w.others))) (here (takes (logs_taken next more)) w.bytes w.first_told taken)
              ∙ after_more torn more (merged_from adopt clock limit (n + 1) next w.others)
              ∙ ap (λ l. after_torn l (merged_from adopt clock limit (n + 1) next w.others)) (sym is);
        }

    -- it is at fault
    pub leads_fault : (e f : MergeFault) (all : Option (List (List ℕ))) → e ≡ f → IfSome all (LeadsLeft now n torn left)
        → (IsOfLogs f → IfSome known (λ bytes. log_merged adopt own_clock own n now bytes ≡ Err f)) → IsOfLogs e → IfSome all (λ logs. merged_from adopt clock limit 0 start logs ≡ Err e)
    leads_fault e f None is h refused own = tt
    leads_fault e f (Some logs) is h refused own =
        let w = is_split first later h.rest (sym split ∙ h.told) in
        h.outcome
        ∙ ap (λ l. after_torn torn (merged_from adopt clock limit n now l)) w.whole
        ∙ ap (λ r. after_torn torn (then_merged r (λ d. merged_from adopt clock limit (n + 1) d w.others))) (here (stops f) w.bytes w.first_told (refused (subst IsOfLogs is own)))
        ∙ ap stops (sym is)

-- ---- whose text

-- Of the logs those that are left are told too, and none before them passes the test.
pub record AnyLeft (f : List ℕ → Bool) (left : Option (List (List ℕ))) (logs : List (List ℕ)) : Type 0 where
  pub rest : List (List ℕ)
  pub told : left ≡ Some rest
  pub any : list_any f logs ≡ list_any f rest

-- ---- all operations

-- a log that was taken has had all its operations taken one by one
one_taken : (adopt : Bool) (clock limit n : ℕ) (c : Content) (bytes : List ℕ) (t : LogsTaken) → log_merged adopt clock limit n c bytes ≡ Ok t → taken_one_by_one limit c (log_operations bytes) ≡ Ok t.content
one_taken adopt clock limit n c bytes t h = by_apart (not adopt && is_apart c bytes) refl h
  where
    by_far : (far : Bool) (d : Content) (read : LogRead) → log_outcome limit c bytes ≡ (d, Ok read) → (if far then Err (Far n) else Ok (logs_taken d (torn_at n read.lines read.end))) ≡ takes t → taken_one_by_one limit c (log_operations bytes) ≡ Ok t.content
    by_far true d read is g = let clash : stops (Far n) ≡ takes t = g in absurd cc
    by_far false d read is g =
        let same : takes (logs_taken d (torn_at n read.lines read.end)) ≡ takes t = g in
        let whole : logs_taken d (torn_at n read.lines read.end) ≡ t = cc in
        log_taken limit c d read bytes is ∙ ap (λ (x : LogsTaken). Ok x.content) whole

    by_outcome : (p : LogOutcome) → log_outcome limit c bytes ≡ p → after_log clock n p.0 p.1 ≡ Ok t → taken_one_by_one limit c (log_operations bytes) ≡ Ok t.content
    by_outcome (d, Ok read) is g = by_far (is_far clock d) d read is g
    by_outcome (d, Err e) is g = let clash : stops (Log n (show_fault e)) ≡ takes t = g in absurd cc

    by_apart : (apart : Bool) → (not adopt && is_apart c bytes) ≡ apart → (if apart then Err (Apart n) else (let p = log_outcome limit c bytes in after_log clock n p.0 p.1)) ≡ takes t → taken_one_by_one limit c (log_operations bytes) ≡ Ok t.content
    by_apart true is g = let clash : stops (Apart n) ≡ takes t = g in absurd cc
    by_apart false is g = by_outcome (log_outcome limit c bytes) refl g

-- and so have all
pub merged_taken : (adopt : Bool) (clock limit n : ℕ) (c : Content) (logs : List (List ℕ)) (t : LogsTaken) → merged_from adopt clock limit n c logs ≡ Ok t → taken_one_by_one limit c (all_operations logs) ≡ Ok t.content
merged_taken adopt clock limit n c [] t h =
    let same : takes (logs_taken c []) ≡ takes t = h in
    let whole : logs_taken c [] ≡ t = cc in
    ap (λ (x : LogsTaken). Ok x.content) whole
merged_taken adopt clock limit n c (bytes ∷ logs) t h = by_first (log_merged adopt clock limit n c bytes) refl h (λ d u. merged_taken adopt clock limit (n + 1) d logs u)
  where
    by_rest : (u : LogsTaken) (r : MergeOutcome) → log_merged adopt clock limit n c bytes ≡ Ok u → merged_from adopt clock limit (n + 1) u.content logs ≡ r → after_torn u.torn r ≡ Ok t
        → ((v : LogsTaken) → merged_from adopt clock limit (n + 1) u.content logs ≡ Ok v → taken_one_by_one limit u.content (all_operations logs) ≡ Ok v.content)
        → taken_one_by_one limit c (all_operations (bytes ∷ logs)) ≡ Ok t.content
    by_rest u (Ok v) is rest g behind =
        let same : takes (logs_taken v.content (u.torn ++ v.torn)) ≡ takes t = g in
        let whole : logs_taken v.content (u.torn ++ v.torn) ≡ t = cc in
        one_by_one-append limit c u.content (log_operations bytes) (all_operations logs) (one_taken adopt clock limit n c bytes u is)
        ∙ behind v rest ∙ ap (λ (x : LogsTaken). Ok x.content) whole
    by_rest u (Err e) is rest g behind = let clash : stops e ≡ takes t = g in absurd cc

    by_first : (r : MergeOutcome) → log_merged adopt clock limit n c bytes ≡ r → then_merged r (λ d. merged_from adopt clock limit (n + 1) d logs) ≡ Ok t
        → ((d : Content) (u : LogsTaken) → merged_from adopt clock limit (n + 1) d logs ≡ Ok u → taken_one_by_one limit d (all_operations logs) ≡ Ok u.content)
        → taken_one_by_one limit c (all_operations (bytes ∷ logs)) ≡ Ok t.content
    by_first (Ok u) is g behind = by_rest u (merged_from adopt clock limit (n + 1) u.content logs) is refl g (behind u.content)
    by_first (Err e) is g behind = let clash : stops e ≡ takes t = g in absurd cc
