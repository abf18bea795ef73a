use Rattle.std.proofs.Common.{sym}
use Rattle.mg_session.proofs.opening.edit.Goals as goal

pub returns-in-Ok-clause-loaded : goal.returns-in-Ok-clause-loaded
returns-in-Ok-clause-loaded g c = λ calls told adds. (c.args.found, adds, sym (c.in-Ok.ensures.exact (λ is. cc)))
