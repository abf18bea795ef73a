-- Failures that are counted all at once, or one by one.
use Rattle.std.proofs.Common.{◌≡◌, ◌∙◌, ℕ, zero, suc, ◌+◌, ◌≤◌, min, ap, arith}
use Rattle.rga_exchange.specs.Counting.{one_more, max_failures}
use Rattle.mgr_port.specs.Logs.{raised}

least : (n m : ℕ) → n ≤ m → n ≡ min (n + 0) m
least n m h = omega (arith, h)

least_more : (n k m : ℕ) → min (min (n + k) m + 1) m ≡ min (n + suc k) m
least_more n k m = omega arith

pub raised_is : (n k : ℕ) → n ≤ max_failures → raised n k ≡ min (n + k) max_failures
raised_is n zero h = least n max_failures h
raised_is n (suc k) h = ap one_more (raised_is n k h) ∙ least_more n k max_failures
