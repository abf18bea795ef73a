use Rattle.mg_files.proofs.MeetingLaws.{meet_briefly}
use Rattle.mg_files.proofs.laws.two_that_meet_briefly_hold_one_content.Goals as goal

pub returns : goal.returns
returns g c = meet_briefly
