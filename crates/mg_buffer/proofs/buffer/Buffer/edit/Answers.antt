use Rattle.mg_buffer.proofs.Prelude.{rules, ◌≤◌, arith, List, Op, Document, clock_of, content_of, join, newest_restored, splices_operations}
use Rattle.mg_buffer.proofs.GroupLaws.{edited_revertible}
use Rattle.mg_buffer.proofs.OldLaws.{clock_goes_on}
use Rattle.mg_buffer.proofs.PlaceLaws.{mark_stands_if}
use Rattle.mg_buffer.proofs.buffer.Buffer.edit.Goals as goal

pub invariant_of-self-2 : goal.invariant_of-self-2
invariant_of-self-2 g c =
    let doc : Document = c.self.inside.doc in
    let ops : List Op = splices_operations doc.replica doc.content c.args.splices.now in
    let mark = mark_stands_if c.take_splices.new.doc.content c.mark_at-self-inside.result c.mark_at-self-inside.ensures.placed in
    let old : newest_restored c.take_splices.new.history ≤ clock_of (join doc.content (content_of ops)) = omega (arith, c.self.invariant.old, c.take_splices.ensures.newest, clock_goes_on doc.content (content_of ops)) in
    let revertible = edited_revertible doc.limit doc.replica doc.content c.args.splices.now c.self.inside.history.pasts c.in_ok-line.ensures.exact c.self.invariant.revertible in
    search rules
