use Rattle.std.proofs.Common.{refl}
use Rattle.mgr_port.proofs.PlaceLaws.{rights_may, rights_owner}
use Rattle.mgr_port.proofs.files.take_mode.Goals as goal

pub returns-clause-only : goal.returns-clause-only
returns-clause-only g c = rights_may _ _ _ _ _ _ (rights_owner _ _ _ _ _ c.in_ok-is_owned.ensures.taken) c.set_mode.ensures.step (λ _. refl)
