use Rattle.mg_buffer.proofs.Prelude.{◌≡◌, ◌≤◌, take, length, vec_len, vec_capacity, latest, all_substituted}
use Rattle.mg_buffer.proofs.restored.follow_groups.Given as goal

abbrev pub invariant-loop-group : goal.invariant-loop-group
invariant-loop-group l = record { last : l.last.items ≡ all_substituted (latest l.restored.entries) (take l.group-index l.groups); len : vec_len l.last ≡ l.group-index; capacity : length l.groups ≤ vec_capacity l.last }
