use Rattle.std.proofs.Common.{arith, rules, refl, [], ◌≡◌}
use Rattle.std.proofs.KnownBytes.{Consumes-nil, Consumes-kept}
use Rattle.mg_session.specs.Running.{through, broken_off}
use Rattle.mg_session.proofs.TakenLaws.{reads_none, reads_more}
use Rattle.mg_session.proofs.session.Session.take_keys.Goals as goal

pub reads-preserved : goal.reads-preserved
reads-preserved g c = λ behind rest reads.
    let e = c.in-Ok.ensures in
    c.reads.invariant behind rest (reads_more c.args.self.now.trace _ e.bytes e.device e.call c.in-On.ensures reads)

pub returns-in-Ok-eq0 : goal.returns-in-Ok-eq0
returns-in-Ok-eq0 g c =
    let e = c.in-Ok-eq0.ensures in
    let none : c.in-Ok-eq0.field-0 ≡ 0 = search rules in
    let end = e.end none in
    c.reads.invariant _ _ (through [] (rw none at e.bytes) (omega (arith, e.call)) (omega (arith, e.call)) e.device (λ _. (end.last_read, end.none_left)) refl)

pub returns-in-Err : goal.returns-in-Err
returns-in-Err g c =
    let e = c.in-Err.ensures in
    c.reads.invariant _ _ (broken_off [] (Consumes-kept _ _ _ [] (Consumes-nil (g.R.Read.remaining c.reads.keys.inner)) e.kept) e.device refl refl)

pub returns-in_default : goal.returns-in_default
returns-in_default g c =
    let trace = c.args.self.now.trace in
    let e = c.in-Ok.ensures in
    c.reads.invariant _ _ (reads_more trace _ e.bytes e.device e.call c.press_all.ensures (reads_none trace _ _ c.in_default.not-On))
