use Rattle.std.proofs.Common.{refl}
use Rattle.mgr_port.proofs.PlaceLaws.{rights_chain, rights_look, rights_may, rights_none}
use Rattle.mgr_port.proofs.note.take_rights.Goals as goal

pub returns-in-Some-found-clause-only : goal.returns-in-Some-found-clause-only
returns-in-Some-found-clause-only g c = rights_chain _ _ _ _ (rights_look _ _ _ _ _ (rights_none _ _ _ refl) c.in_ok-like.ensures.step tt) c.take_mode-in-Some-found.ensures.only

pub returns-in-None-clause-only : goal.returns-in-None-clause-only
returns-in-None-clause-only g c = rights_may _ _ _ _ _ _ (rights_look _ _ _ _ _ (rights_none _ _ _ refl) c.in_ok-like.ensures.step tt) c.set_mode.ensures.step (λ _. refl)
