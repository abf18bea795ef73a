use Rattle.std.proofs.Common.{◌-◌}
use Rattle.rga_ops.specs.Content.{content_of}
use Rattle.rga_exchange.proofs.GoingOnLemmas.{IsCounted}
use Rattle.rga_exchange.proofs.compacting.deletions_from.Given as goal

abbrev pub invariant-deletions : goal.invariant-deletions
invariant-deletions l = IsCounted (content_of l.ops) l.most l.fn.id l.count l.last

abbrev pub decreases-deletions : goal.decreases-deletions
decreases-deletions l = l.most - l.count
