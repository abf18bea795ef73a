use Rattle.mg_events.proofs.MemoryLaws.{is_exact}
use Rattle.mg_events.proofs.laws.want_of_memory_shows.Goals as goal

pub returns : goal.returns
returns c = is_exact
