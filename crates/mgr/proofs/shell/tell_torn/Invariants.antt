use Rattle.std.specs.Prelude.{map, string_bytes, take}
use Rattle.mgr.specs.Telling.{TellsMore, torn_telling}
use Rattle.mgr.proofs.shell.tell_torn.Given as goal

abbrev pub invariant-loop-log : goal.invariant-loop-log
invariant-loop-log g l =
    TellsMore (g.T.Tell.told l.fn.errors) (g.T.Tell.told l.errors) (torn_telling (map string_bytes l.names) (take l.log-index l.torn))
