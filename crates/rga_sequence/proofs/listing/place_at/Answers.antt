use Rattle.std.proofs.Common.{◌≡◌, ◌+◌, ◌≤◌, List, length, sym, ap, ◌∙◌, subst, arith, length-append}
use Rattle.rga_sequence.specs.declared.entry.Entry.{Entry}
use Rattle.rga_sequence.specs.Entries.{visible_count}
use Rattle.rga_sequence.specs.Blocks.{Blocks, flat, before, behind, IsPlace}
use Rattle.rga_pages.proofs.PartLaws.{index_within, parted}
use Rattle.rga_sequence.proofs.PlaceLaws.{block_within}
use Rattle.rga_sequence.proofs.CountLaws.{count_within, count_before}
use Rattle.rga_sequence.proofs.StandLaws.{place_behind, up_to_there}
use Rattle.rga_sequence.proofs.listing.place_at.Goals as goal

pub visible_before-requires : goal.visible_before-requires
visible_before-requires c =
    subst (λ xs. c.args.at.index + 1 ≤ length xs) (sym c.index.ensures)
    (index_within c.args.blocks.now.items c.args.at.block (c.args.at.index + 1) c.index.result.now (place_behind c.args.blocks.now.items c.args.at.block c.args.at.index c.args.id c.requires.stands))

total : (c : goal.After-visible_before) → c.count_before-count.result + c.visible_before.result ≡ visible_count (before c.args.blocks.now.items c.args.at.block (c.args.at.index + 1))
total c =
    let bs : Blocks = c.args.blocks.now.items in
    let place : IsPlace bs c.args.at.block (c.args.at.index + 1) = place_behind bs c.args.at.block c.args.at.index c.args.id c.requires.stands in
    omega (arith, c.count_before-count.ensures, c.visible_before.ensures, count_before bs c.args.at.block (c.args.at.index + 1) c.index.result.now c.index.ensures (block_within bs c.args.at.block (c.args.at.index + 1) place))

pub overflow_add-result : goal.overflow_add-result
overflow_add-result c =
    let bs : Blocks = c.args.blocks.now.items in
    let front : List Entry = before bs c.args.at.block (c.args.at.index + 1) in
    let back : List Entry = behind bs c.args.at.block (c.args.at.index + 1) in
    let part : length (flat bs) ≡ length front + length back =
    ap length (parted bs c.args.at.block (c.args.at.index + 1)) ∙ length-append front back in
    omega (arith, total c, part, count_within front, c.requires.fits)

pub returns : goal.returns
returns c = total c ∙ ap visible_count (sym (up_to_there c.args.id c.args.blocks.now.items c.args.at.block c.args.at.index c.requires.kept.apart c.requires.stands))
