use Rattle.mg_live.proofs.ChangeLaws.{change_makes, change_within, no_change, no_change_of_itself}
use Rattle.mg_live.proofs.laws.a_change_makes_the_text.Goals as goal

pub returns : goal.returns
returns c = record { text = change_makes; within = change_within; none = no_change; same = no_change_of_itself }
