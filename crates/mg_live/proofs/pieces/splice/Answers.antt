use Rattle.mg_live.specs.Reports as spec
use Rattle.mg_live.proofs.PieceLaws.{piece_held, piece_dropped, piece_whole, splice_taken}
use Rattle.mg_live.proofs.pieces.splice.Goals as goal

pub returns-in-Held : goal.returns-in-Held
returns-in-Held g c =
    splice_taken _ _ _ _ c.live.view_is c.gather.new.self c.gather.result _ _ _ _ c.args.base c.args.lo c.args.hi c.gather.ensures
    (piece_held (spec.Splices c.args.base c.args.lo c.args.hi) _ _ _ c.in-Held.is)

pub returns-in-Dropped : goal.returns-in-Dropped
returns-in-Dropped g c =
    splice_taken _ _ _ _ c.live.view_is c.gather.new.self c.gather.result _ _ _ _ c.args.base c.args.lo c.args.hi c.gather.ensures
    (piece_dropped (spec.Splices c.args.base c.args.lo c.args.hi) _ _ _ c.in-Dropped.fault c.in-Dropped.is)

pub returns-in-Whole : goal.returns-in-Whole
returns-in-Whole g c =
    splice_taken _ _ _ _ c.live.view_is c.gather.new.self c.gather.result _ _ _ _ c.args.base c.args.lo c.args.hi c.gather.ensures
    (piece_whole (spec.Splices c.args.base c.args.lo c.args.hi) _ _ _ c.in-Whole.put c.as_slice.result.now _ _ _ c.in-Whole.is c.as_slice.ensures c.splice_whole.ensures)
