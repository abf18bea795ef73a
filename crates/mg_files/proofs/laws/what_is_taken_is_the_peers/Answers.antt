use Rattle.mg_files.proofs.MeetingLaws.{parts}
use Rattle.mg_files.proofs.laws.what_is_taken_is_the_peers.Goals as goal

pub returns : goal.returns
returns g c = parts
