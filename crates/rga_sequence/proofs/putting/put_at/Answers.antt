use Rattle.std.proofs.Common.{◌≤◌, ◌+◌, [], length, slice_index_or, sym, ap, ◌∙◌, subst, arith}
use Rattle.rga_sequence.specs.declared.block.TheConstants.{MOST}
use Rattle.rga_sequence.specs.Blocks.{Blocks, flat, IsPlace}
use Rattle.rga_ops.proofs.CaseSteps.{on_err_always}
use Rattle.rga_pages.proofs.PartLaws.{cut_flat}
use Rattle.rga_sequence.proofs.PlaceLaws.{other_place}
use Rattle.rga_sequence.proofs.putting.put_at.Goals as goal

pub put_in_block-requires-2-clause-place : goal.put_in_block-requires-2-clause-place
put_in_block-requires-2-clause-place c =
    let bs : Blocks = c.args.blocks.now.items in
    subst (λ cs. IsPlace cs c.moved-place.result.block c.moved-place.result.index) (sym c.in_ok-cut_block.ensures.ok)
    (c.moved-place.ensures.place bs c.requires.place (other_place bs c.args.at.block c.args.at.index c.min-cut.result [] c.requires.place (omega (arith, c.has_room.ensures.full c.if-has_room.false, c.min-cut.ensures, c.requires.few))))

pub put_in_block-requires-2-clause-room : goal.put_in_block-requires-2-clause-room
put_in_block-requires-2-clause-room c =
    subst (λ cs. length (slice_index_or cs c.moved-place.result.block []) + length c.args.entries.now ≤ MOST) (sym c.in_ok-cut_block.ensures.ok)
    (omega (arith, c.moved-place.ensures.room c.args.blocks.now.items c.has_room.ensures.most, c.requires.few))

pub returns-in_err-put_in_block-2-clause-err : goal.returns-in_err-put_in_block-2-clause-err
returns-in_err-put_in_block-2-clause-err c =
    on_err_always c.from_residual-in_err-put_in_block-2.result
    (c.in_err-put_in_block-2.ensures.err ∙ ap flat c.in_ok-cut_block.ensures.ok ∙ cut_flat c.args.blocks.now.items c.args.at.block c.min-cut.result)
