-- The deletions of a run, one after another.
use Rattle.rga_lines.proofs.Prelude.{◌≡◌, ℕ, zero, suc, ◌<◌, ◌+◌, Ok, ne_eqb, arith, true, AllByRecursion, Identifier, is_in_range, checked, Op, DeletionRun, next, deletions_from, run_deletions, IsDeletionRun}

-- the identifier of an element is not the root
pub above_root : (id : Identifier) → is_in_range id.counter id.replica ≡ true → 0 < id.counter
above_root id e = grind arith

-- the next counter is one of an element too
pub next_in_range : (counter replica : ℕ) → is_in_range counter replica ≡ true → counter < 9007199254740991 → is_in_range (counter + 1) replica ≡ true
next_in_range counter replica e h = grind arith

pub deletions_checked : (id : Identifier) (count : ℕ) → 0 < id.counter → AllByRecursion (λ (op : Op). checked op ≡ Ok tt) (deletions_from id count)
deletions_checked id zero h = tt
deletions_checked id (suc count) h = (rw (ne_eqb id.counter 0 (λ z. omega (arith, h))), deletions_checked (next id) count (omega arith))

-- they are well-formed
pub run_deletions_checked : (r : DeletionRun) → IsDeletionRun r → AllByRecursion (λ (op : Op). checked op ≡ Ok tt) (run_deletions r)
run_deletions_checked r h = deletions_checked r.id r.count (above_root r.id h.element)
