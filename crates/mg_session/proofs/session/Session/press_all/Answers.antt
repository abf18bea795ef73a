use Rattle.std.proofs.Common.{arith}
use Rattle.mg_session.proofs.TakenLaws.{next_key, takes_none}
use Rattle.mg_session.proofs.session.Session.press_all.Goals as goal

pub returns-in_default : goal.returns-in_default
returns-in_default g c =
    c.loop-key.invariant _
    (next_key c.args.self.now.trace c.args.keys.now c.loop-key.key-index 0 _ _ _ (omega (arith, c.loop-key-test.true)) c.press.ensures
    (takes_none c.args.self.now.trace _ _ c.in_default.not-On))
