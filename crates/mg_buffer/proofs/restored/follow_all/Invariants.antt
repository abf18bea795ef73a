use Rattle.mg_buffer.proofs.Prelude.{◌≡◌, ◌≤◌, map, take, length, vec_len, vec_capacity, latest}
use Rattle.mg_buffer.proofs.restored.follow_all.Given as goal

abbrev pub invariant-loop-id : goal.invariant-loop-id
invariant-loop-id l = record { last : l.last.items ≡ map (latest l.restored.entries) (take l.id-index l.ids); len : vec_len l.last ≡ l.id-index; capacity : length l.ids ≤ vec_capacity l.last }
