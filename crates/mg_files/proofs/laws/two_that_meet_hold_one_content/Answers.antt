use Rattle.mg_files.proofs.MeetingLaws.{meet}
use Rattle.mg_files.proofs.laws.two_that_meet_hold_one_content.Goals as goal

pub returns : goal.returns
returns g c = meet
