use Rattle.std.proofs.Common.{length}
use Rattle.rga_lines.proofs.RunLemmas.{IsReadTo}
use Rattle.rga_lines.proofs.spelled.characters.Given as goal

abbrev pub invariant-chars : goal.invariant-chars
invariant-chars l = IsReadTo l.fn.id l.fn.parent l.fn.bytes l.ops.items l.counter l.above l.rest

abbrev pub decreases-chars : goal.decreases-chars
decreases-chars l = length l.rest
