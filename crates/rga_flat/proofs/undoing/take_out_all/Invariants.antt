use Rattle.std.proofs.Common.{◌≡◌, not, map, filter}
use Rattle.std.specs.List.{list_any}
use Rattle.rga_ops.proofs.IdentifierLaws.{is}
use Rattle.rga_flat.proofs.undoing.take_out_all.Given as goal

-- the entries of those that were passed are gone
abbrev pub invariant-loop-id : goal.invariant-loop-id
invariant-loop-id l = l.sequence ≡ filter (λ e. not (list_any (is e.id) (map (λ x. x.now) l.yielded))) l.initial.sequence
