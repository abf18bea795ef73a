use Rattle.mgr_port.proofs.PlaceLaws.{left_spare}
use Rattle.mgr_port.proofs.vacating.make_way.Goals as goal

pub returns-in-Some-clause-kept : goal.returns-in-Some-clause-kept
returns-in-Some-clause-kept g c = let given = rw c.in-Some.is at c.in_ok-spare.ensures.vacated in left_spare _ _ _ _ _ _ given.1 c.remove.ensures.step
