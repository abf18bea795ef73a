use Rattle.mg_buffer.proofs.Prelude.{◌≡◌, ◌≤◌, map, take, length, vec_len, vec_capacity, latest, Identifier, ℕ}
use Rattle.mg_buffer.proofs.restored.follow_deleted.Given as goal

abbrev pub invariant-loop-id : goal.invariant-loop-id
invariant-loop-id l = record { last : l.last.items ≡ map (λ (b : Identifier × ℕ). (latest l.restored.entries b.0, b.1)) (take l.id-index l.deleted); len : vec_len l.last ≡ l.id-index; capacity : length l.deleted ≤ vec_capacity l.last }
