use Rattle.std.proofs.Common.{arith}
use Rattle.rga_lines.proofs.PartsLemmas.{wide_spelled}
use Rattle.rga_lines.proofs.spelled_parts.wide_character.Goals as goal

pub returns-else-from-lt128 : goal.returns-else-from-lt128
returns-else-from-lt128 c = wide_spelled c.args.bytes.now c.in_ok-front.front.now c.in_ok-front.rest.now c.in-Ok.text.now c.if-branch-lt224.width c.in_ok-ch.ch c.in_ok-front.ensures.cases.1 c.in_ok-front.ensures.cases.2 c.in-Ok.ensures.cases.0 c.in-Ok.ensures.cases.1 c.in_ok-ch.ensures (omega (arith, c.if-from-lt128.false, c.from.ensures))
