use Rattle.mg_files.proofs.WriterSteps.{act_is_events, act_numbers, fresh_sites, reached_sites, reached_further}
use Rattle.mg_files.proofs.writers.writers_are_sites_of_a_world.Goals as goal

pub returns : goal.returns
returns c = record { begin = fresh_sites; on = act_is_events; numbers = act_numbers; reached = reached_sites; further = reached_further }
