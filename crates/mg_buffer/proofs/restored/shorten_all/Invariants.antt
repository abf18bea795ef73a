use Rattle.mg_buffer.proofs.Prelude.{IsShortened}
use Rattle.mg_buffer.proofs.restored.shorten_all.Given as goal

abbrev pub invariant-loop-id : goal.invariant-loop-id
invariant-loop-id l = IsShortened l.fn.restored.entries l.restored.entries
