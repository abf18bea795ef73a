use Rattle.mg_buffer.proofs.Prelude.{◌≡◌, drop, least_begin}
use Rattle.mg_buffer.proofs.line_numbers.least_begin.Given as goal

abbrev pub invariant-loop-splice : goal.invariant-loop-splice
invariant-loop-splice l = least_begin l.least (drop l.splice-index l.splices) ≡ least_begin l.place l.splices
