-- Numbers found by a test.
use Rattle.std.specs.Prelude.{◌≡◌, ◌<◌, ◌≤◌, ◌⊎◌, ℕ, zero, suc, ◌+◌, ◌-◌, Bool, true, false, Option, Some, None, if◌then◌else◌}
use Rattle.std.specs.Option.{unwrap_or}

-- the least of the `count` numbers from `n` on that passes
abbrev pub least : (ℕ → Bool) → ℕ → ℕ → Option ℕ
least p n zero = None
least p n (suc count) = if p n then Some n else least p (n + 1) count

-- the greatest of the numbers below `n` that passes
abbrev pub greatest_passing : (ℕ → Bool) → ℕ → Option ℕ
greatest_passing p zero = None
greatest_passing p (suc n) = if p n then Some n else greatest_passing p n

-- the least number from `n` on and below the bound that passes, else the bound
abbrev pub least_from : (ℕ → Bool) → ℕ → ℕ → ℕ
least_from p n bound = unwrap_or (least p n (bound - n)) bound

-- the greatest number up to `n` that passes, else 0
abbrev pub greatest_up_to : (ℕ → Bool) → ℕ → ℕ
greatest_up_to p n = unwrap_or (greatest_passing p (suc n)) 0

-- ---- in words

-- `q` is the least number from `n` on and below the bound that passes
pub record IsLeast (p : ℕ → Bool) (n bound q : ℕ) : Type 0 where
  pub from : n ≤ q
  pub below : q < bound
  pub passes : p q ≡ true
  pub least : (k : ℕ) → n ≤ k → k < q → p k ≡ false

-- `q` is the greatest number below the bound that passes
pub record IsGreatest (p : ℕ → Bool) (bound q : ℕ) : Type 0 where
  pub below : q < bound
  pub passes : p q ≡ true
  pub greatest : (k : ℕ) → q < k → k < bound → p k ≡ false

-- `q` is the least number from `n` on at which the test passes, or the bound, where it passes nowhere before it
pub record IsLeastFrom (p : ℕ → Bool) (n bound q : ℕ) : Type 0 where
  pub from : n ≤ q
  pub up_to : q ≤ bound
  pub passes : (q ≡ bound) ⊎ (p q ≡ true)
  pub least : (k : ℕ) → n ≤ k → k < q → p k ≡ false

-- `q` is the greatest number up to `n` at which the test passes, or 0, where it passes nowhere behind it
pub record IsGreatestUpTo (p : ℕ → Bool) (n q : ℕ) : Type 0 where
  pub up_to : q ≤ n
  pub passes : (q ≡ 0) ⊎ (p q ≡ true)
  pub greatest : (k : ℕ) → q < k → k ≤ n → p k ≡ false
