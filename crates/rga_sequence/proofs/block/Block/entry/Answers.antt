use Rattle.std.proofs.Common.{◌<◌, length, sym, ap, ◌∙◌, subst}
use Rattle.std.specs.Prelude.{Some}
use Rattle.std.specs.List.{slice_get}
use Rattle.std.proofs.lemmas.Option.{slice_get-get_or}
use Rattle.rga_sequence.proofs.block.Block.entry.Goals as goal

pub returns : goal.returns
returns c =
    ap (λ xs. slice_get xs c.args.index) (sym c.self.view_is)
    ∙ slice_get-get_or c.self.inside.entries.items c.args.index c.index.result.now (subst (λ xs. c.args.index < length xs) (sym c.self.view_is) c.requires)
    ∙ ap Some (sym c.index.ensures)
