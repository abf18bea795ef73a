use Rattle.std.proofs.Common.{rules}
use Rattle.rga_lines.proofs.PartsLemmas.{read_zero, read_first, read_next}
use Rattle.rga_lines.proofs.spelled_parts.number.Goals as goal

pub returns-then-first-eq48 : goal.returns-then-first-eq48
returns-then-first-eq48 c = read_zero c.args.bytes.now c.in_ok-first.behind.now c.in_ok-first.first.now (search rules) (search rules)

pub digits-init : goal.digits-init
digits-init c = read_first c.args.bytes.now c.in_ok-first.behind.now c.in_ok-first.first.now c.from-value.result (search rules) (search rules) (search rules) (search rules) c.from-value.ensures

pub digits-preserved : goal.digits-preserved
digits-preserved c = read_next c.args.bytes.now c.digits.rest.now c.in-Some.behind.now c.in-Some.next.now c.digits.value c.from.result c.digits.invariant (search rules) (search rules) (search rules) (search rules) c.from.ensures
