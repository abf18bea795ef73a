use Rattle.rga_ops.proofs.OperationsLaws.{content_of-operations, operations_hold, operations_taken}
use Rattle.rga_ops.proofs.laws.content.a_content_is_that_of_its_operations.Goals as goal

pub returns-clause-content : goal.returns-clause-content
returns-clause-content c = content_of-operations

pub returns-clause-held : goal.returns-clause-held
returns-clause-held c = operations_hold

pub returns-clause-taken : goal.returns-clause-taken
returns-clause-taken c = operations_taken
