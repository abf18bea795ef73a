use Rattle.mg_events.specs.StatusText.{place_json}
use Rattle.mg_events.proofs.AddedLemmas.{next, token, array_added, left_none}
use Rattle.mg_events.proofs.arrays.add_places.Goals as goal

pub returns : goal.returns
returns c =
    let all = left_none place_json c.args.places.now c.loop-place.place-index c.loop-place-test.false c.loop-place.invariant in
    next (token c.in_ok-key.ensures) (array_added _ (token c.in_ok-begin_array.ensures) all (token c.in_ok-end_array.ensures))
