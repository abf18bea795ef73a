-- What lies within what: scans, chains.
use Rattle.std.proofs.Common.{Bool, None, Option, Some, [], ap, arith, false, inl, inr, refl, suc, true, zero, ℕ, ◌+◌, ◌-◌, ◌<◌, ◌∷◌, ◌≡◌, ◌≤◌, ◌⊎◌}
use Rattle.std.specs.Option.{unwrap_or}
use Rattle.mg_plain.specs.Scans.{IsGreatest, IsLeast, greatest_passing, greatest_up_to, least, least_from}
use Rattle.mg_plain.specs.Spans.{AreRisingSpans, Span, span_chain}

least_on : (p : ℕ → Bool) (n count q : ℕ) → least p n (suc count) ≡ Some q → (least p (n + 1) count ≡ Some q → IsLeast p (n + 1) (n + 1 + count) q) → IsLeast p n (n + suc count) q
least_on p n count q h rest = grind arith

pub least_found : (p : ℕ → Bool) (n count q : ℕ) → least p n count ≡ Some q → IsLeast p n (n + count) q
least_found p n zero q h = absurd cc
least_found p n (suc count) q h = least_on p n count q h (least_found p (n + 1) count q)

none_on : (p : ℕ → Bool) (n count k : ℕ) → least p n (suc count) ≡ None → n ≤ k → k < n + suc count → (least p (n + 1) count ≡ None → n + 1 ≤ k → k < n + 1 + count → p k ≡ false) → p k ≡ false
none_on p n count k h lo hi rest = grind arith

pub none_found : (p : ℕ → Bool) (n count : ℕ) → least p n count ≡ None → (k : ℕ) → n ≤ k → k < n + count → p k ≡ false
none_found p n zero h k lo hi = absurd (omega (arith, lo, hi))
none_found p n (suc count) h k lo hi = none_on p n count k h lo hi (λ g. none_found p (n + 1) count g k)

-- a scan stays between its begin and its bound
pub least_from-within : (p : ℕ → Bool) (n bound : ℕ) → n ≤ bound → (n ≤ least_from p n bound) × (least_from p n bound ≤ bound)
least_from-within p n bound up = grind (arith, least_found)

greatest_on : (p : ℕ → Bool) (n q : ℕ) → greatest_passing p (suc n) ≡ Some q → (greatest_passing p n ≡ Some q → IsGreatest p n q) → IsGreatest p (suc n) q
greatest_on p n q h rest = grind arith

pub greatest_is : (p : ℕ → Bool) (n q : ℕ) → greatest_passing p n ≡ Some q → IsGreatest p n q
greatest_is p zero q h = absurd cc
greatest_is p (suc n) q h = greatest_on p n q h (greatest_is p n q)

pub greatest_up_to-within : (p : ℕ → Bool) (n : ℕ) → greatest_up_to p n ≤ n
greatest_up_to-within p n = grind (arith, greatest_is)

abbrev pub FindsWithin : (ℕ → Option Span) → ℕ → Type 0
FindsWithin find to = (q : ℕ) (s : Span) → q ≤ to → find q ≡ Some s → (q ≤ s.lo) × (s.lo ≤ s.hi) × (s.hi ≤ to)

pub span_chain-rising : (find : ℕ → Option Span) (to : ℕ) → FindsWithin find to → (most from : ℕ) → from ≤ to → AreRisingSpans from to (span_chain find most from)
span_chain-rising find to finds zero from up = tt
span_chain-rising find to finds (suc most) from up = elim (find from) as (λ o. find from ≡ o → AreRisingSpans from to (elim o [ None ↦ [] | Some s ↦ s ∷ span_chain find most s.hi ])) [
  | None ↦ λ e. tt
  | Some s ↦ λ e. let f = finds from s up e in (f.0, f.1, f.2, span_chain-rising find to finds most s.hi f.2)
] refl

no_more : (p : ℕ → Bool) (n k : ℕ) → greatest_passing p (suc n) ≡ None → k < suc n → (greatest_passing p n ≡ None → k < n → p k ≡ false) → p k ≡ false
no_more p n k h hi rest = grind arith

pub none_is : (p : ℕ → Bool) (n : ℕ) → greatest_passing p n ≡ None → (k : ℕ) → k < n → p k ≡ false
none_is p zero h k hi = absurd (omega (arith, hi))
none_is p (suc n) h k hi = no_more p n k h hi (λ g. none_is p n g k)

-- a scan ends at its bound or where the test passes, and passes nowhere before
pub least_from-is : (p : ℕ → Bool) (n bound : ℕ) → n ≤ bound → ((least_from p n bound ≡ bound) ⊎ (p (least_from p n bound) ≡ true)) × ((k : ℕ) → n ≤ k → k < least_from p n bound → p k ≡ false)
least_from-is p n bound up = elim (least p n (bound - n)) as (λ o. least p n (bound - n) ≡ o → ((unwrap_or o bound ≡ bound) ⊎ (p (unwrap_or o bound) ≡ true)) × ((k : ℕ) → n ≤ k → k < unwrap_or o bound → p k ≡ false)) [
  | None ↦ λ h. (inl refl, λ k lo hi. none_found p n (bound - n) h k lo (omega (arith, hi, up)))
  | Some q ↦ λ h. let found = least_found p n (bound - n) q h in (inr found.passes, found.least)
] refl

pub greatest_up_to-is : (p : ℕ → Bool) (n : ℕ) → ((greatest_up_to p n ≡ 0) ⊎ (p (greatest_up_to p n) ≡ true)) × ((k : ℕ) → greatest_up_to p n < k → k ≤ n → p k ≡ false)
greatest_up_to-is p n = elim (greatest_passing p (suc n)) as (λ o. greatest_passing p (suc n) ≡ o → ((unwrap_or o 0 ≡ 0) ⊎ (p (unwrap_or o 0) ≡ true)) × ((k : ℕ) → unwrap_or o 0 < k → k ≤ n → p k ≡ false)) [
  | None ↦ λ h. (inl refl, λ k lo hi. none_is p (suc n) h k (omega (arith, hi)))
  | Some q ↦ λ h. let found = greatest_is p (suc n) q h in (inr found.passes, λ k lo hi. found.greatest k lo (omega (arith, hi)))
] refl

pub chain_more : (find : ℕ → Option Span) (most from : ℕ) (s : Span) → find from ≡ Some s → span_chain find (suc most) from ≡ s ∷ span_chain find most s.hi
chain_more find most from s h = grind arith

pub chain_ends : (find : ℕ → Option Span) (most from : ℕ) → find from ≡ None → span_chain find most from ≡ []
chain_ends find zero from h = refl
chain_ends find (suc most) from h = ap (λ (o : Option Span). elim o [ None ↦ [] | Some r ↦ r ∷ span_chain find most r.hi ]) h
