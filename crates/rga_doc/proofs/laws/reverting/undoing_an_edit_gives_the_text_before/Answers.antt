use Rattle.rga_doc.proofs.UndoApart.{edit_restorable, undo_of_edit}
use Rattle.rga_doc.proofs.laws.reverting.undoing_an_edit_gives_the_text_before.Goals as goal

pub returns : goal.returns
returns c = record { restorable = edit_restorable; text = undo_of_edit }
