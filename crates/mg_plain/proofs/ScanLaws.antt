-- Scans for the least number from a place on, and for the greatest up to it.
use Rattle.std.proofs.Common.{Bool, Some, ap, arith, false, suc, true, ℕ, ◌+◌, ◌-◌, ◌<◌, ◌≡◌}
use Rattle.std.specs.Option.{unwrap_or}
use Rattle.mg_plain.specs.Scans.{greatest_up_to, least, least_from}

-- a scan of `least` up to a bound
pub found_here : (p : ℕ → Bool) (n bound : ℕ) → n < bound → p n ≡ true → least p n (bound - n) ≡ Some n
found_here p n bound inside h = let e : bound - n ≡ suc (bound - (n + 1)) = omega (arith, inside) in grind (arith, e)

pub found_later : (p : ℕ → Bool) (n bound : ℕ) → n < bound → p n ≡ false → least p n (bound - n) ≡ least p (n + 1) (bound - (n + 1))
found_later p n bound inside h = let e : bound - n ≡ suc (bound - (n + 1)) = omega (arith, inside) in grind (arith, e)

pub scan_here : (p : ℕ → Bool) (n bound : ℕ) → n < bound → p n ≡ true → least_from p n bound ≡ n
scan_here p n bound inside h = ap (λ o. unwrap_or o bound) (found_here p n bound inside h)

pub scan_on : (p : ℕ → Bool) (n bound : ℕ) → n < bound → p n ≡ false → least_from p n bound ≡ least_from p (n + 1) bound
scan_on p n bound inside h = ap (λ o. unwrap_or o bound) (found_later p n bound inside h)

pub back_step : (p : ℕ → Bool) (q : ℕ) → 0 < q → p q ≡ false → greatest_up_to p q ≡ greatest_up_to p (q - 1)
back_step p q some h = let e : q ≡ suc (q - 1) = omega (arith, some) in grind (arith, e)
