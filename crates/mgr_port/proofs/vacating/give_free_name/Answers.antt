use Rattle.mgr_port.proofs.PlaceLaws.{given_free, go_linked}
use Rattle.mgr_port.proofs.vacating.give_free_name.Goals as goal

pub remove-requires : goal.remove-requires
remove-requires g c = go_linked _ _ _ _ _ c.new.ensures.is_path c.in-Ok.ensures.step

pub rename-requires : goal.rename-requires
rename-requires g c = given_free _ _ _ _ _ c.new-in-None.ensures.is_path c.in-None.is c.in_ok-look.ensures.step
