use Rattle.std.proofs.Common.{rules, ◌≡◌, ◌-◌, arith}
use Rattle.rga_ops.specs.declared.op.Op.TheVariants.{Insert}
use Rattle.rga_exchange.specs.RunLines.{front_count}
use Rattle.rga_exchange.proofs.RunLineLaws.{count_in}
use Rattle.rga_exchange.proofs.runs.line_of_run.Goals as goal

pub returns-clause-within : goal.returns-clause-within
returns-clause-within c =
    let count : c.len.result - 1 ≡ front_count (Insert c.args.id c.args.parent c.args.ch) c.args.behind.now = search rules in
    omega (arith, count, count_in (Insert c.args.id c.args.parent c.args.ch) c.args.behind.now)
