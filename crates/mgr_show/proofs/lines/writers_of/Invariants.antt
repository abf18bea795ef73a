use Rattle.std.proofs.Common.{◌≡◌, length}
use Rattle.mgr_show.specs.Authors.{and_writers, writers}
use Rattle.mgr_show.proofs.lines.writers_of.Given as goal

abbrev pub invariant-characters : goal.invariant-characters
invariant-characters l = and_writers l.replicas.keys l.rest ≡ writers l.fn.line

abbrev pub decreases-characters : goal.decreases-characters
decreases-characters l = length l.rest
