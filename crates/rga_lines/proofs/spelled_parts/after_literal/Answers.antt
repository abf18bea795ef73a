use Rattle.std.proofs.Common.{rules}
use Rattle.rga_lines.proofs.PartsLemmas.{parted}
use Rattle.rga_lines.proofs.spelled_parts.after_literal.Goals as goal

pub returns-then-eq : goal.returns-then-eq
returns-then-eq o c = parted c.args.bytes.now c.in_ok-front.front.now c.in_ok-front.rest.now c.args.literal.now _ c.in_ok-front.ensures.cases.0 c.in_ok-front.ensures.cases.1 (search rules)
