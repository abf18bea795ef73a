use Rattle.mg_editor.proofs.HoldingLaws.{one_taken_on, taken_on}
use Rattle.mg_editor.proofs.held.what_is_taken_is_a_step_of_its_buffer.Goals as goal

pub returns-clause-list : goal.returns-clause-list
returns-clause-list c i ops old new s = taken_on ops s i old new

pub returns-clause-one : goal.returns-clause-one
returns-clause-one c = one_taken_on
