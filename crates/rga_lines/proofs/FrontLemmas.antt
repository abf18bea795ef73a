-- The front of bytes, once more is put behind it; and numbers that are put with the digits of their hundred.
use Rattle.rga_lines.proofs.Prelude.{◌≡◌, ℕ, ◌+◌, ◌-◌, ◌*◌, ◌/◌, ◌^◌, ◌<◌, ◌≤◌, List, ◌++◌, length, take, decimal, sym, ap, ◌∙◌, arith, append_assoc, take-take, length-take, decimal_pair, pair}
use Rattle.std.proofs.Math.Seq.{take-append_seam, take-append-add}

-- of what is known to begin so, a shorter front is the same
pub front_stays : (n m : ℕ) (xs front rest : List ℕ) → take m xs ≡ front ++ rest → length front ≡ n → n ≤ m → take n xs ≡ front
front_stays n m xs front rest put long within =
    let seam : take (length front) (front ++ rest) ≡ front = take-append_seam front rest in
    let cut : take n (front ++ rest) ≡ front = rw long at seam in
    sym (take-take n m xs within) ∙ ap (take n) put ∙ cut

-- where a room was put, a part of it was
pub part_put : (at count room : ℕ) (new old front : List ℕ) → take (at + room) new ≡ take at old ++ front → at ≤ length old → count ≤ room → take (at + count) new ≡ take at old ++ take count front
part_put at count room new old front put within fits =
    let long : length (take at old) ≡ at = omega (arith, length-take at old) in
    let added : take (length (take at old) + count) (take at old ++ front) ≡ take at old ++ take count front = take-append-add (take at old) front count in
    let cut : take (at + count) (take at old ++ front) ≡ take at old ++ take count front = rw long at added in
    sym (take-take (at + count) (at + room) new (omega arith)) ∙ ap (take (at + count)) put ∙ cut

-- a number has the digits of its hundred, and two more
decimal_of_hundred : (n first : ℕ) → 100 ≤ first → first / 100 * 100 ≡ first → first ≤ n → n - first < 100 → n < 2 ^ 64 → decimal n ≡ decimal (first / 100) ++ pair (n - first)
decimal_of_hundred n first lo round above near small = grind (arith, decimal_pair)

pub hundred_put : (before front new held piece : List ℕ) (n first : ℕ) → front ≡ before ++ held → held ≡ piece ++ decimal (first / 100) → new ≡ front ++ pair (n - first) → 100 ≤ first → first / 100 * 100 ≡ first → first ≤ n → n - first < 100 → n < 2 ^ 64 → new ≡ before ++ (piece ++ decimal n)
hundred_put before front new held piece n first h d two lo round above near small = grind (arith, pair, decimal, append_assoc, decimal_of_hundred)
