use Rattle.std.proofs.Common.{inl, inr, refl}
use Rattle.mg_session.specs.Moments.{seen}
use Rattle.mg_session.specs.declared.course.Course.TheVariants.{NoScreen}
use Rattle.mg_session.specs.Memory.{CourseMemory as NoMemory}
use Rattle.mg_live.specs.States.{moment}
use Rattle.mg_live.specs.Statuses.{whole, begun, unmade}
use Rattle.mg_live.proofs.picture.show.Goals as goal

pub returns-in-Err : goal.returns-in-Err
returns-in-Err g c = λ calls faults.
    let screen = seen g.W.Write.contents c.args.screen.now in
    unmade c.ready.new.live c.ready.new.editor (inl c.in-Err.ensures.same)
    (refl {a = moment c.ready.new.editor calls faults screen NoMemory c.ready.new.live})

pub returns-in-Err-picture : goal.returns-in-Err-picture
returns-in-Err-picture g c = λ calls faults.
    let screen = seen g.W.Write.contents c.args.screen.now in
    unmade c.ready.new.live c.ready.new.editor (inr (c.in-Ok.is_new, c.in-Ok.ensures.drawn))
    (refl {a = moment c.ready.new.editor calls faults screen NoMemory c.ready.new.live})

pub returns-in-Ok-write_bytes : goal.returns-in-Ok-write_bytes
returns-in-Ok-write_bytes g c = λ calls faults.
    let screen = seen g.W.Write.contents c.write_bytes.new.screen in
    let written = rw c.deref.ensures.value at c.in-Ok-write_bytes.ensures.bytes in
    whole _ screen c.ready.new.live c.ready.new.editor (record { is_new = c.in-Ok.is_new; drawn = c.in-Ok.ensures.drawn; is = c.in-Ok-picture.ensures })
    written c.in-Ok-write_bytes.ensures.device c.in-Ok-write_bytes.ensures.flushed
    (refl {a = moment c.ready.new.editor calls faults screen c.args.course c.ready.new.live})

pub returns : goal.returns
returns g c = λ calls faults.
    let screen = seen g.W.Write.contents c.write_bytes.new.screen in
    let front = c.in-Err-write_bytes.ensures.begun in
    let is = rw (← c.deref.ensures.value, front.parts) at c.in-Ok-picture.ensures in
    begun front.front front.rest screen c.ready.new.live c.ready.new.editor
    (record { is_new = c.in-Ok.is_new; drawn = c.in-Ok.ensures.drawn; is = is }) front.written c.in-Err-write_bytes.ensures.device
    (refl {a = moment c.ready.new.editor calls faults screen NoScreen c.ready.new.live})
