use Rattle.mg_editor.proofs.SweepLaws.{log_turned, log_owed}
use Rattle.mg_editor.proofs.live_laws.a_log_that_was_due_has_all_or_is_to_be_written_whole.Goals as goal

pub returns-clause-turned : goal.returns-clause-turned
returns-clause-turned c = log_turned

pub returns-clause-owed : goal.returns-clause-owed
returns-clause-owed c = log_owed
