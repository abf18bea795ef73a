use Rattle.mg_buffer.proofs.Prelude.{rules}
use Rattle.mg_buffer.proofs.TakingLaws.{reverted_taken}
use Rattle.mg_buffer.proofs.buffer.Buffer.undo.Goals as goal

pub returns-clause-took : goal.returns-clause-took
returns-clause-took g c = let took = reverted_taken c.in_ok-revert.ensures.reverted in rw (← c.self.view_is) (search rules)
