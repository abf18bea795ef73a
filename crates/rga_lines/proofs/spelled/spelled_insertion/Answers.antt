use Rattle.rga_lines.proofs.Prelude.{rules}
use Rattle.rga_lines.proofs.SpelledLemmas.{line_says}
use Rattle.rga_lines.proofs.spelled.spelled_insertion.Goals as goal

pub returns : goal.returns
returns c = line_says c.args.bytes.now c.in-Some.rest.now c.in-Some.op c.in-Some.ensures (search rules)
