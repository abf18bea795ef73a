use Rattle.std.proofs.Common.{sym, ap, ◌∙◌, refl}
use Rattle.rga_sequence.specs.Entries.{has}
use Rattle.rga_sequence.proofs.StandLaws.{entry_absent}
use Rattle.rga_sequence.proofs.sequence.Sequence.find.Goals as goal

pub returns-in_err-at : goal.returns-in_err-at
returns-in_err-at c =
    c.from_residual.ensures ∙ sym (entry_absent c.args.id c.args.self.now (ap (has c.args.id) (sym c.self.view_is) ∙ c.in_err-at.ensures.none refl))
