use Rattle.std.proofs.Common.{sym, ap, ◌∙◌, refl}
use Rattle.rga_sequence.specs.Entries.{has}
use Rattle.rga_sequence.proofs.StandLaws.{mark_absent}
use Rattle.rga_sequence.proofs.sequence.Sequence.mark.Goals as goal

pub returns-in_default : goal.returns-in_default
returns-in_default c = sym (mark_absent c.args.deleted c.args.id c.args.self.now (ap (has c.args.id) (sym c.self.view_is) ∙ c.in_default.ensures.none refl))
