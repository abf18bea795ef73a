-- Which operations can be written.
use Rattle.rga_lines.proofs.Prelude.{◌≡◌, ℕ, ◌||◌, Bool, true, false, nat_le, cond, Result, Ok, Err, IsScalar, Identifier, is_root, is_in_range, checked, Insert, Delete, IsElement, IsElementOrRoot, IsWritable}
use Rattle.rga_ops.specs.declared.refusal.Refusal.{Refusal}
use Rattle.rga_ops.specs.declared.refusal.Refusal.TheVariants.{BadId, BadOrder}
use Rattle.rga_ops.proofs.AnswerLaws.{passed, bad}

-- an identifier that is the root or in the ranges, and is not the root, is in the ranges
in_range : (id : Identifier) (rest : Result (Unit {0}) Refusal) → IsElementOrRoot id → cond (is_root id) (Err BadId) rest ≡ Ok tt → IsElement id
in_range id rest = by_root (is_root id)
  where
    by_root : (root : Bool) → (root || is_in_range id.counter id.replica) ≡ true → cond root (Err BadId) rest ≡ Ok tt → IsElement id
    by_root true kept ok = let clash : bad BadId ≡ passed = ok in absurd cc
    by_root false kept ok = kept

pub insertion_writable : (id parent : Identifier) (ch : ℕ) → IsElementOrRoot id → IsElementOrRoot parent → IsScalar ch → checked (Insert id parent ch) ≡ Ok tt → IsWritable (Insert id parent ch)
insertion_writable id parent ch kept above scalar ok = (in_range id (cond (nat_le id.counter parent.counter) (Err BadOrder) (Ok tt)) kept ok, above, scalar)

pub deletion_writable : (id : Identifier) → IsElementOrRoot id → checked (Delete id) ≡ Ok tt → IsWritable (Delete id)
deletion_writable id kept ok = in_range id (Ok tt) kept ok
