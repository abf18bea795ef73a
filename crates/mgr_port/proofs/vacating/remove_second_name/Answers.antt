use Rattle.std.proofs.Common.{refl}
use Rattle.mgr_port.proofs.PlaceLaws.{go_open, one_of_more}
use Rattle.mgr_port.proofs.vacating.remove_second_name.Goals as goal

pub remove-requires : goal.remove-requires
remove-requires g c = go_open _ _ _ _ _ _ _ _ _ c.in-Some.ensures.path.is_path c.in_ok-follow.ensures.path c.in_ok-open.ensures.step c.in_ok-follow.ensures.step (one_of_more _ _ (c.in-Some.ensures.exact.0 refl))
