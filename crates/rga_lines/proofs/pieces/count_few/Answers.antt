use Rattle.rga_lines.proofs.Prelude.{◌/◌, sym, arith, length_one, length_two, length_pair}
use Rattle.rga_lines.proofs.pieces.count_few.Goals as goal

pub returns-then-number-lt10 : goal.returns-then-number-lt10
returns-then-number-lt10 c = sym (length_one c.args.number (omega arith))

pub returns-then-number-lt100 : goal.returns-then-number-lt100
returns-then-number-lt100 c = sym (length_two c.args.number (omega arith) (omega arith))

pub returns-then-number-lt1000 : goal.returns-then-number-lt1000
returns-then-number-lt1000 c = omega (arith, length_pair c.args.number (omega arith) (omega arith), length_one (c.args.number / 100) (omega arith))

pub returns-else-number-lt1000 : goal.returns-else-number-lt1000
returns-else-number-lt1000 c = omega (arith, length_pair c.args.number (omega arith) (omega arith), length_two (c.args.number / 100) (omega arith) (omega arith))
