use Rattle.std.proofs.Common.{refl, sym}
use Rattle.mg_session.specs.Display.{whole, begun, unmade}
use Rattle.mg_session.proofs.display.show.Goals as goal

pub returns-in-Err : goal.returns-in-Err
returns-in-Err g c = λ calls. unmade c.frame_of.new.editor c.in-Err.ensures.unmade refl

pub returns-in-Ok-write_bytes : goal.returns-in-Ok-write_bytes
returns-in-Ok-write_bytes g c = λ calls.
    let text = rw c.in-Ok.ensures.placed at c.in-Ok.ensures.text in
    let written = rw (c.deref.ensures.value, text) at c.in-Ok-write_bytes.ensures.bytes in
    rw c.in-Ok.ensures.placed (whole _ written c.in-Ok-write_bytes.ensures.device c.in-Ok-write_bytes.ensures.flushed refl)

pub returns : goal.returns
returns g c = λ calls.
    let front = c.in-Err-write_bytes.ensures.begun in
    let text = rw (c.in-Ok.ensures.placed, ← c.deref.ensures.value, front.parts) at (sym c.in-Ok.ensures.text) in
    rw c.in-Ok.ensures.placed (begun front.front front.rest _ text front.written c.in-Err-write_bytes.ensures.device refl)
