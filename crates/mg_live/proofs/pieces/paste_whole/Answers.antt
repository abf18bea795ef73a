use Rattle.std.proofs.Common.{Ok, refl}
use Rattle.mg_live.proofs.pieces.paste_whole.Goals as goal

pub returns-in-Ok : goal.returns-in-Ok
returns-in-Ok g c =
    let noted = c.note_made.ensures c.args.editor.now.work.buffers.current c.args.editor.now c.mark_current-mark.ensures in
    (Ok c.in-Ok.field-0, c.in-Ok.ensures, (c.note_made.result, refl, noted))
