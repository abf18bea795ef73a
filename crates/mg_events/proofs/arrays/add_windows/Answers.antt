use Rattle.mg_events.specs.StatusText.{window_json}
use Rattle.mg_events.proofs.AddedLemmas.{next, token, array_added, left_none}
use Rattle.mg_events.proofs.arrays.add_windows.Goals as goal

pub returns : goal.returns
returns c =
    let all = left_none window_json c.args.windows.now c.loop-window.window-index c.loop-window-test.false c.loop-window.invariant in
    next (token c.in_ok-key.ensures) (array_added _ (token c.in_ok-begin_array.ensures) all (token c.in_ok-end_array.ensures))
