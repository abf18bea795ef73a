use Rattle.std.proofs.Common.{◌≡◌, rules, nat_eq, true, Some}
use Rattle.mg_live.specs.Changes.{change_count}
use Rattle.mg_live.specs.Made.{live_index}
use Rattle.mg_live.proofs.PieceLaws.{splice_made}
use Rattle.mg_live.proofs.pieces.splice_whole.Goals as goal

pub returns-in-Ok : goal.returns-in-Ok
returns-in-Ok g c =
    let i = c.in-Some.index in
    let e = c.args.editor.now in
    let live = c.args.live.now in
    let found : live_index live.name e ≡ Some i = search rules in
    let same : nat_eq c.args.base (change_count live.changes) ≡ true = search rules in
    splice_made c.args.base c.args.lo c.args.hi c.args.put.now e live c.splice.new.self c.note_made.new.live c.note_made.result i c.in-Ok.field-0 found same
    c.in-Ok.ensures.ran c.in-Ok.ensures.spliced (c.note_made.ensures i e c.mark_at-mark.ensures)
