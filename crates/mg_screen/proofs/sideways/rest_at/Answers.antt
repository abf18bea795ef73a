use Rattle.std.proofs.Common.{arith}
use Rattle.mg_screen.proofs.SidewaysLaws.{whole_left, part_left}
use Rattle.mg_screen.proofs.sideways.rest_at.Goals as goal

pub returns-then-column-skip-clause-exact : goal.returns-then-column-skip-clause-exact
returns-then-column-skip-clause-exact c = whole_left c.args.line.now c.args.column c.args.skip c.if-column-skip.true c.requires.some c.requires.to

pub returns-clause-exact : goal.returns-clause-exact
returns-clause-exact c =
    part_left c.args.line.now c.args.column c.args.skip c.cell_width-width.result c.index-line-0.result
    (omega (arith, c.if-column-skip.false, c.requires.from)) c.requires.some c.requires.to c.index-line-0.is c.cell_width-width.ensures.width
