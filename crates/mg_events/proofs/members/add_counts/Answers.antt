use Rattle.mg_events.specs.Objects.{count}
use Rattle.mg_events.proofs.AddedLemmas.{token, array_added, left_none}
use Rattle.mg_events.proofs.members.add_counts.Goals as goal

pub returns : goal.returns
returns c =
    let all = left_none count c.args.values.now c.loop-value.value-index c.loop-value-test.false c.loop-value.invariant in
    array_added _ (token c.in_ok-begin_array.ensures) all (token c.in_ok-end_array.ensures)
