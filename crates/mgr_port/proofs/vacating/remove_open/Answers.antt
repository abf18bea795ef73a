use Rattle.std.proofs.Common.{refl}
use Rattle.mgr_port.proofs.PlaceLaws.{go_open}
use Rattle.mgr_port.proofs.vacating.remove_open.Goals as goal

pub remove-requires : goal.remove-requires
remove-requires g c = go_open _ _ _ _ _ _ _ _ _ c.in-Some.ensures.path.is_path c.in_ok-follow.ensures.path c.in_ok-open.ensures.step c.in_ok-follow.ensures.step (c.in-Some.ensures.exact.0 refl)
