use Rattle.mgr_port.proofs.NamesLaws.{looked_at, not_resolved}
use Rattle.mgr_port.proofs.names.log_path.Goals as goal

pub returns-in_default : goal.returns-in_default
returns-in_default g c = looked_at _ (λ standing. standing.found) _ _ _ _ _ c.in_ok-log.ensures c.as_str.ensures.value c.look.ensures.step

pub returns-in-None : goal.returns-in-None
returns-in-None g c = not_resolved _ _ _ _ _ _ _ c.in_ok-log.ensures c.as_str.ensures.value c.in-Ok.ensures.step c.in-Err.ensures.step
