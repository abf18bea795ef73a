use Rattle.std.proofs.Common.{drop, map}
use Rattle.mg_events.specs.StatusText.{splice_json}
use Rattle.mg_events.proofs.AddedLemmas.{Left}
use Rattle.mg_events.proofs.arrays.add_changes.Given as goal

abbrev pub invariant-loop-splice : goal.invariant-loop-splice
invariant-loop-splice l = Left l.initial.writer l.writer (map splice_json l.splices) (map splice_json (drop l.splice-index l.splices))
