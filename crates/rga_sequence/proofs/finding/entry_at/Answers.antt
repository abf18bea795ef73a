use Rattle.std.proofs.Common.{◌<◌, length, sym, ap, ◌∙◌, subst}
use Rattle.std.specs.List.{slice_get}
use Rattle.rga_sequence.proofs.StandLaws.{index_there, entry_there}
use Rattle.rga_sequence.proofs.finding.entry_at.Goals as goal

pub entry-requires : goal.entry-requires
entry-requires c = subst (λ xs. c.args.at.index < length xs) (sym c.index.ensures) (index_there c.args.blocks.now.items c.args.at.block c.args.at.index c.args.id c.index.result.now c.requires.stands)

pub returns : goal.returns
returns c =
    sym c.entry.ensures
    ∙ ap (λ xs. slice_get xs c.args.at.index) c.index.ensures
    ∙ entry_there c.args.id c.args.blocks.now.items c.args.at.block c.args.at.index c.index.result.now c.requires.kept.apart c.requires.stands
