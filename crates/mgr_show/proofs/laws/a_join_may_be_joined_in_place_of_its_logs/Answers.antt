use Rattle.mgr_show.proofs.JoinWordsLaws.{join_in_place}
use Rattle.mgr_show.proofs.laws.a_join_may_be_joined_in_place_of_its_logs.Goals as goal

pub returns : goal.returns
returns c = join_in_place
