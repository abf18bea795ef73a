use Rattle.mg_files.proofs.MeetingLaws.{has_link}
use Rattle.mg_files.proofs.laws.what_is_exchanged_has_a_link.Goals as goal

pub returns : goal.returns
returns g c = has_link
