use Rattle.std.proofs.Common.{sym, ap, ◌∙◌, refl}
use Rattle.rga_sequence.specs.Entries.{has}
use Rattle.rga_sequence.proofs.StandLaws.{without_absent}
use Rattle.rga_sequence.proofs.sequence.Sequence.take_out.Goals as goal

pub returns-in_default : goal.returns-in_default
returns-in_default c = sym (without_absent c.args.id c.args.self.now (ap (has c.args.id) (sym c.self.view_is) ∙ c.in_default.ensures.none refl))
