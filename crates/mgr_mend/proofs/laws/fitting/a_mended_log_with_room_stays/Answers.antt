use Rattle.mgr_mend.proofs.FittingLaws.{room_log, room_refused, room_left_out}
use Rattle.mgr_mend.proofs.laws.fitting.a_mended_log_with_room_stays.Goals as goal

pub returns-clause-log : goal.returns-clause-log
returns-clause-log c = room_log

pub returns-clause-refused : goal.returns-clause-refused
returns-clause-refused c = room_refused

pub returns-clause-left_out : goal.returns-clause-left_out
returns-clause-left_out c = room_left_out
