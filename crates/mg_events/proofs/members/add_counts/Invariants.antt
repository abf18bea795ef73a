use Rattle.std.proofs.Common.{drop, map}
use Rattle.mg_events.specs.Objects.{count}
use Rattle.mg_events.proofs.AddedLemmas.{Left}
use Rattle.mg_events.proofs.members.add_counts.Given as goal

abbrev pub invariant-loop-value : goal.invariant-loop-value
invariant-loop-value l = Left l.initial.writer l.writer (map count l.values) (map count (drop l.value-index l.values))
