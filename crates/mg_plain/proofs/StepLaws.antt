-- Steps from place to place, one after the other.
use Rattle.std.proofs.Common.{Option, Some, arith, suc, zero, ℕ, ◌≡◌, ◌≤◌}
use Rattle.mg_plain.specs.Steps.{step, steps, steps_up_to}

pub step_on : (step : ℕ → Option ℕ) (k left q m : ℕ) → k ≡ suc left → step q ≡ Some m → steps step k q ≡ steps step left m
step_on step k left q m e h = grind (arith, e)

pub up_to_on : (step : ℕ → Option ℕ) (k left q m : ℕ) → k ≡ suc left → step q ≡ Some m → steps_up_to step k q ≡ steps_up_to step left m
up_to_on step k left q m e h = grind (arith, e)

-- steps stay within a bound that each step stays within
abbrev pub StaysWithin : (ℕ → Option ℕ) → ℕ → Type 0
StaysWithin step bound = (q m : ℕ) → q ≤ bound → step q ≡ Some m → m ≤ bound

pub steps-within : (step : ℕ → Option ℕ) (bound : ℕ) → StaysWithin step bound → (n q r : ℕ) → q ≤ bound → steps step n q ≡ Some r → r ≤ bound
steps-within step bound stays zero q r up h = let e : q ≡ r = cc in omega (arith, up, e)
steps-within step bound stays (suc n) q r up h = on (λ m. stays q m up) (λ m. steps-within step bound stays n m r) h
  where
    on : ((m : ℕ) → step q ≡ Some m → m ≤ bound) → ((m : ℕ) → m ≤ bound → steps step n m ≡ Some r → r ≤ bound) → steps step (suc n) q ≡ Some r → r ≤ bound
    on stays rest h = grind arith

pub steps_up_to-within : (step : ℕ → Option ℕ) (bound : ℕ) → StaysWithin step bound → (n q : ℕ) → q ≤ bound → steps_up_to step n q ≤ bound
steps_up_to-within step bound stays zero q up = up
steps_up_to-within step bound stays (suc n) q up = on (λ m. stays q m up) (λ m. steps_up_to-within step bound stays n m)
  where
    on : ((m : ℕ) → step q ≡ Some m → m ≤ bound) → ((m : ℕ) → m ≤ bound → steps_up_to step n m ≤ bound) → steps_up_to step (suc n) q ≤ bound
    on stays rest = grind arith
