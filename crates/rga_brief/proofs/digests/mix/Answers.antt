use Rattle.std.proofs.Common.{refl}
use Rattle.rga_brief.specs.Digest.{mixed}
use Rattle.rga_brief.proofs.digests.mix.Goals as goal

pub returns : goal.returns
unfolding mixed
returns c = refl
