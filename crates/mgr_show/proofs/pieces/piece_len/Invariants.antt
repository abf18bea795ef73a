use Rattle.std.proofs.Common.{◌≡◌, ◌+◌, ◌==◌, drop}
use Rattle.std.specs.List.{prefix_len}
use Rattle.mgr_show.proofs.pieces.piece_len.Given as goal

abbrev pub invariant-loop-index : goal.invariant-loop-index
invariant-loop-index l = l.index + prefix_len (λ x. x.0 == l.replica) (drop l.index l.written) ≡ prefix_len (λ x. x.0 == l.replica) l.written
