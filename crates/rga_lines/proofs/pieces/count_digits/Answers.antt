use Rattle.rga_lines.proofs.Prelude.{arith, length_four}
use Rattle.rga_lines.proofs.DigitsLemmas.{at_most_twenty}
use Rattle.rga_lines.proofs.pieces.count_digits.Goals as goal

pub fours-preserved : goal.fours-preserved
fours-preserved c = record {
  counted = omega (arith, length_four c.fours.rest (omega arith) (omega arith), c.fours.invariant.counted);
  within = omega (arith, c.fours.invariant.within);
}

pub overflow_add-count : goal.overflow_add-count
overflow_add-count c = omega (arith, at_most_twenty c.args.number (omega arith), c.fours.invariant.counted)

pub overflow_add-result : goal.overflow_add-result
overflow_add-result c = omega (arith, at_most_twenty c.args.number (omega arith), c.fours.invariant.counted, c.count_few.ensures)
