use Rattle.std.proofs.Common.{◌≤◌, ◌+◌, length, drop, [], sym, ap, ◌∙◌, subst}
use Rattle.std.proofs.lemmas.List.{get_or_default}
use Rattle.rga_sequence.specs.Blocks.{larger_at_front}
use Rattle.rga_pages.proofs.PartLaws.{index_within}
use Rattle.rga_sequence.proofs.PlaceLaws.{other_place, past, stops, block_within}
use Rattle.rga_sequence.proofs.skipping.past_in_block.Goals as goal

pub past_larger-requires : goal.past_larger-requires
past_larger-requires c = subst (λ xs. c.args.at.index ≤ length xs) (sym c.index.ensures) (index_within c.args.blocks.now.items c.args.at.block c.args.at.index c.index.result.now c.requires.place)

pub returns-clause-place : goal.returns-clause-place
returns-clause-place c = other_place c.args.blocks.now.items c.args.at.block c.args.at.index c.past_larger.result c.index.result.now c.requires.place (subst (λ xs. c.past_larger.result ≤ length xs) c.index.ensures c.past_larger.ensures.within)

pub returns-clause-stops : goal.returns-clause-stops
returns-clause-stops c = λ w.
    stops c.args.blocks.now.items c.args.at.block c.args.at.index c.args.entry.now [] c.requires.place c.past_larger.result
    (c.past_larger.ensures.index ∙ ap (λ xs. c.args.at.index + larger_at_front c.args.entry.now.id (drop c.args.at.index xs)) (c.index.ensures ∙ get_or_default c.args.blocks.now.items c.args.at.block c.index.result.now [] (block_within c.args.blocks.now.items c.args.at.block c.args.at.index c.requires.place)))
    w

pub returns-clause-past : goal.returns-clause-past
returns-clause-past c =
    past c.args.blocks.now.items c.args.at.block c.args.at.index c.args.entry.now c.index.result.now c.requires.place c.past_larger.result
    (c.past_larger.ensures.index ∙ ap (λ xs. c.args.at.index + larger_at_front c.args.entry.now.id (drop c.args.at.index xs)) c.index.ensures)
