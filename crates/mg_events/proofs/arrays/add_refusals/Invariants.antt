use Rattle.std.proofs.Common.{drop, map}
use Rattle.mg_events.specs.StatusText.{refused_json}
use Rattle.mg_events.proofs.AddedLemmas.{Left}
use Rattle.mg_events.proofs.arrays.add_refusals.Given as goal

abbrev pub invariant-loop-report : goal.invariant-loop-report
invariant-loop-report l = Left l.initial.writer l.writer (map refused_json l.reports) (map refused_json (drop l.report-index l.reports))
