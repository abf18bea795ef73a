use Rattle.rga_exchange.proofs.OperationLaws.{log_joined}
use Rattle.rga_exchange.proofs.LogLaws.{log_joinable, log_lines, log_only_operations, log_without_fault, log_stands, log_that_stands}
use Rattle.rga_exchange.proofs.laws.logs_stand_for_their_operations.Goals as goal

pub returns : goal.returns
returns c = record {
  joined = log_joined;
  joinable = log_joinable;
  lines = log_lines;
  operations = log_only_operations;
  without_fault = log_without_fault;
  stands = log_stands;
  read = log_that_stands;
}
