use Rattle.std.proofs.Common.{◌≡◌, ◌++◌, length, map}
use Rattle.std.specs.List.{zip}
use Rattle.rga_ops.specs.Identifier.{Identifier}
use Rattle.mgr_show.proofs.authors.with_replicas.Given as goal

-- what is in it and what is left are all characters
abbrev pub invariant-characters : goal.invariant-characters
invariant-characters l = l.written.items ++ zip (map (λ (id : Identifier). id.replica) l.ids) l.chars ≡ zip (map (λ (id : Identifier). id.replica) l.fn.ids) l.fn.chars

abbrev pub decreases-characters : goal.decreases-characters
decreases-characters l = length l.ids
