use Rattle.std.proofs.Common.{arith, refl, sym}
use Rattle.mg_live.proofs.StandingLaws.{next_byte, takes_none}
use Rattle.mg_live.proofs.taking.take_bytes.Goals as goal

pub loop-byte-preserved : goal.loop-byte-preserved
loop-byte-preserved g c =
    let event = c.read-event in
    record {
      taken = λ screen left some after rest.
          c.loop-byte.invariant.taken screen left some after
          (next_byte c.args.block.now c.loop-byte.byte-index 0 event.result c.count_event-any.result c.loop-byte.reader event.new.self left c.loop-byte.any some
          _ _ after (omega (arith, c.loop-byte-test.true)) refl event.ensures.event event.ensures.left
          (c.in-On.ensures.taken screen event.new.self (sym c.line.ensures)) (c.count_event-any.ensures event.new.self) rest);
      told = c.in-On.ensures.told refl;
    }

pub returns-in_default-clause-taken : goal.returns-in_default-clause-taken
returns-in_default-clause-taken g c = λ screen.
    let event = c.read-event in
    c.loop-byte.invariant.taken screen _ _ _
    (next_byte c.args.block.now c.loop-byte.byte-index 0 event.result c.count_event-any.result c.loop-byte.reader event.new.self event.new.self
    c.loop-byte.any c.count_event-any.result _ _ _ (omega (arith, c.loop-byte-test.true)) refl event.ensures.event event.ensures.left
    (c.take_event.ensures.taken screen event.new.self (sym c.line.ensures)) (c.count_event-any.ensures event.new.self)
    (takes_none _ _ _ _ c.in_default.not-On))
