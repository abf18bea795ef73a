use Rattle.mg_events.specs.StatusText.{refused_json}
use Rattle.mg_events.proofs.AddedLemmas.{next, token, array_added, left_none}
use Rattle.mg_events.proofs.arrays.add_refusals.Goals as goal

pub returns : goal.returns
returns c =
    let all = left_none refused_json c.args.reports.now c.loop-report.report-index c.loop-report-test.false c.loop-report.invariant in
    next (token c.in_ok-key.ensures) (array_added _ (token c.in_ok-begin_array.ensures) all (token c.in_ok-end_array.ensures))
