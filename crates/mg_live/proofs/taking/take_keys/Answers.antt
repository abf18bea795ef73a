use Rattle.std.proofs.Common.{rules, [], ◌≡◌}
use Rattle.std.proofs.KnownBytes.{Consumes-nil, Consumes-kept}
use Rattle.mg_session.specs.declared.course.Course.TheVariants.{On}
use Rattle.mg_live.specs.Running.{ended}
use Rattle.mg_live.proofs.StandingLaws.{reads_end, reads_failed, reads_more}
use Rattle.mg_live.proofs.taking.take_keys.Goals as goal

pub take_block-course-requires : goal.take_block-course-requires
take_block-course-requires g c =
    let on : c.reads.course ≡ On = search rules in
    c.reads.invariant.told on

pub reads-preserved : goal.reads-preserved
reads-preserved g c =
    let e = c.in-Ok.ensures in
    let on : c.reads.course ≡ On = search rules in
    record {
      reads = λ left after rest reads. c.reads.invariant.reads left after rest (reads_more _ on e.bytes e.device e.call c.take_block-course.ensures.taken reads);
      told = c.take_block-course.ensures.told;
    }

pub returns-in_default : goal.returns-in_default
returns-in_default g c = c.reads.invariant.reads _ _ _ (ended c.in_default.not-On)

pub returns-in-Ok-eq0 : goal.returns-in-Ok-eq0
returns-in-Ok-eq0 g c =
    let e = c.in-Ok-eq0.ensures in
    let none : c.in-Ok-eq0.field-0 ≡ 0 = search rules in
    let on : c.reads.course ≡ On = search rules in
    let end = e.end none in
    c.reads.invariant.reads _ _ _ (reads_end on (rw none at e.bytes) end.none_left end.last_read e.device)

pub returns-in-Err : goal.returns-in-Err
returns-in-Err g c =
    let e = c.in-Err.ensures in
    let on : c.reads.course ≡ On = search rules in
    c.reads.invariant.reads _ _ _ (reads_failed on (Consumes-kept _ _ _ [] (Consumes-nil (g.R.Read.remaining c.reads.keys.inner)) e.kept) e.device)
