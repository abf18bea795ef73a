use Rattle.rga_exchange.proofs.RunLineLaws.{runs_appended, runs_ended}
use Rattle.rga_exchange.proofs.laws.appended_runs_are_joined.Goals as goal

pub returns : goal.returns
returns c = record { joined = runs_appended; ended = runs_ended }
