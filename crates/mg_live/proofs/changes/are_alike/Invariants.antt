use Rattle.std.proofs.Common.{ℕ, ◌≡◌, ◌<◌, true, length, slice_index}
use Rattle.mg_live.proofs.changes.are_alike.Given as goal

abbrev pub invariant-loop-one : goal.invariant-loop-one
invariant-loop-one l = l.alike ≡ true → (k : ℕ) → k < length l.yielded → slice_index l.old k ≡ slice_index l.new k
