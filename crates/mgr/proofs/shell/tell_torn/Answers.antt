use Rattle.std.proofs.Common.{subst, sym, map, string_bytes}
use Rattle.std.proofs.lemmas.List.{map_more}
use Rattle.mgr.specs.Report.{torn_message}
use Rattle.mgr.specs.Telling.{TellsMore, line}
use Rattle.mgr.proofs.TellingLaws.{tells_both, tells_nothing}
use Rattle.mgr.proofs.shell.tell_torn.Goals as goal

pub loop-log-init : goal.loop-log-init
loop-log-init g c = tells_nothing _

pub loop-log-preserved : goal.loop-log-preserved
loop-log-preserved g c =
    let names = map string_bytes c.args.names.now in
    subst (TellsMore _ _) (sym (map_more (λ log. line (torn_message names log)) c.args.torn.now c.loop-log.log-index _ c.loop-log-test.true))
    (tells_both _ _ _ _ _ c.loop-log.invariant c.tell_torn_line.ensures)
