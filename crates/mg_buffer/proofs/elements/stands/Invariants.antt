use Rattle.std.proofs.Common.{drop, length, ◌-◌, ◌≡◌, ◌≤◌}
use Rattle.rga_ops.specs.Order.{text}
use Rattle.mg_plain.specs.Matches.{begins_with, stands_at}
use Rattle.mg_buffer.proofs.elements.stands.Given as goal

abbrev pub invariant-loop-k : goal.invariant-loop-k
invariant-loop-k g l =
    let all = text (g.S.Taker.content l.store) in
    record { same : stands_at l.pattern all l.place ≡ begins_with (drop l.k l.pattern) (drop l.k (drop l.place all)); inside : l.k ≤ length l.pattern }

abbrev pub decreases-loop-k : goal.decreases-loop-k
decreases-loop-k g l = length l.pattern - l.k
