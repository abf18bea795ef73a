use Rattle.mg_live.specs.Reports as spec
use Rattle.mg_live.proofs.PieceLaws.{piece_held, piece_dropped, piece_whole, paste_taken}
use Rattle.mg_live.proofs.pieces.paste.Goals as goal

pub returns-in-Held : goal.returns-in-Held
returns-in-Held g c =
    paste_taken _ _ _ _ c.live.view_is c.gather.new.self c.gather.result _ _ _ _ c.gather.ensures (piece_held spec.Pastes _ _ _ c.in-Held.is)

pub returns-in-Dropped : goal.returns-in-Dropped
returns-in-Dropped g c =
    paste_taken _ _ _ _ c.live.view_is c.gather.new.self c.gather.result _ _ _ _ c.gather.ensures (piece_dropped spec.Pastes _ _ _ c.in-Dropped.fault c.in-Dropped.is)

pub returns-in-Whole : goal.returns-in-Whole
returns-in-Whole g c =
    paste_taken _ _ _ _ c.live.view_is c.gather.new.self c.gather.result _ _ _ _ c.gather.ensures
    (piece_whole spec.Pastes _ _ _ c.in-Whole.put c.as_slice.result.now _ _ _ c.in-Whole.is c.as_slice.ensures c.paste_whole.ensures)
