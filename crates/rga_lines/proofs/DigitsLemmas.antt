-- How many digits a number has.
use Rattle.rga_lines.proofs.Prelude.{ℕ, ◌<◌, ◌≤◌, ◌^◌, ◌/◌, length, decimal, arith, length-decimal-le}

pub at_most_twenty : (n : ℕ) → n < 2 ^ 64 → length (decimal n) ≤ 20
at_most_twenty n small = length-decimal-le 20 n (omega arith) (omega arith) small

pub at_most_eighteen : (n : ℕ) → n < 2 ^ 64 → length (decimal (n / 100)) ≤ 18
at_most_eighteen n small = length-decimal-le 18 (n / 100) (omega arith) (omega arith) (omega arith)

pub at_most_five : (n : ℕ) → n < 2 ^ 16 → length (decimal n) ≤ 5
at_most_five n small = length-decimal-le 5 n (omega arith) (omega arith) (omega arith)
