use Rattle.mg_files.proofs.WriterSteps.{no_conflict, no_list_conflict}
use Rattle.mg_files.proofs.writers.writers_never_conflict.Goals as goal

pub returns : goal.returns
returns c = record { one = no_conflict; list = no_list_conflict }
