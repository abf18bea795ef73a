use Rattle.std.proofs.Common.{length}
use Rattle.rga_lines.proofs.PartsLemmas.{IsRead}
use Rattle.rga_lines.proofs.spelled_parts.number.Given as goal

abbrev pub invariant-digits : goal.invariant-digits
invariant-digits l = IsRead l.fn.bytes l.value l.rest

abbrev pub decreases-digits : goal.decreases-digits
decreases-digits l = length l.rest
