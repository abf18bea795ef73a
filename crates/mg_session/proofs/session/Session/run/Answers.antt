use Rattle.std.proofs.Common.{refl}
use Rattle.mg_session.proofs.TakenLaws.{runs_none}
use Rattle.mg_session.proofs.session.Session.run.Goals as goal

pub returns-in_default : goal.returns-in_default
returns-in_default g c = runs_none _ _ c.args.keys.now _ _ refl c.in_default.not-On (c.show_if.ensures _)

pub returns : goal.returns
returns g c =
    let asked = c.follows_session.ensures in
    record { begun = _; ended = _; starts = c.in-On.ensures _; taken = c.take_keys-ended.ensures; finishes = rw (← asked) (c.show_if-2.ensures _) }
