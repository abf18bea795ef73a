use Rattle.mgr_port.proofs.FolderLaws.{idle_look, on_err, only_chain, spare_kept}
use Rattle.mgr_port.proofs.vacating.spare_name.Goals as goal

pub returns-in_ok-keep-in-None-clause-vacated : goal.returns-in_ok-keep-in-None-clause-vacated
returns-in_ok-keep-in-None-clause-vacated g c = (c.in_ok-keep-in-None.ensures.path, spare_kept _ _ _ _ _ _ c.in_ok-standing.ensures.step c.in_ok-keep-in-None.ensures.kept)

pub returns-in_err-keep-in-None-clause-idle : goal.returns-in_err-keep-in-None-clause-idle
returns-in_err-keep-in-None-clause-idle g c = on_err _ (only_chain _ _ _ (idle_look _ _ _ _ c.in_ok-standing.ensures.step) c.in_err-keep-in-None.ensures.idle)
