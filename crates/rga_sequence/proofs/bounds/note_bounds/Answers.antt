use Rattle.std.proofs.Common.{◌+◌, ◌*◌, length, sym, subst}
use Rattle.rga_sequence.specs.declared.groups.TheConstants.{GROUP}
use Rattle.rga_sequence.specs.Blocks.{Blocks, AreBlocksFrom, AreBounds}
use Rattle.rga_sequence.proofs.GroupLaws.{notes_more}
use Rattle.rga_sequence.proofs.bounds.note_bounds.Goals as goal

pub returns-then-not-push_note : goal.returns-then-not-push_note
returns-then-not-push_note c = record {
  bounds = subst (λ xs. AreBounds xs c.args.blocks.now.items) (sym (c.push_note.ensures.same c.if-not-push_note.true)) c.loop-bounds.invariant;
}

pub loop-bounds-preserved : goal.loop-bounds-preserved
loop-bounds-preserved c =
    let bs : Blocks = c.args.blocks.now.items in
    subst (λ xs. AreBounds xs bs) (sym (c.push_note.ensures.pushed c.if-not-push_note.false))
    (notes_more AreBlocksFrom c.loop-bounds.bounds.items c.least_from-least.result bs c.loop-bounds.invariant
    (subst (λ xs. AreBlocksFrom c.least_from-least.result (length xs * GROUP) (length xs * GROUP + GROUP) bs) c.as_slice-in-loop-bounds.ensures.value c.least_from-least.ensures))
