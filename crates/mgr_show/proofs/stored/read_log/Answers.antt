use Rattle.std.proofs.Common.{refl}
use Rattle.mgr_show.proofs.StoredLaws.{told_is_read}
use Rattle.mgr_show.proofs.stored.read_log.Goals as goal

pub returns-clause-read : goal.returns-clause-read
returns-clause-read g c =
    let made = c.in-Ok.ensures.made refl in
    told_is_read _ _ _ _ _ _ _ c.in_ok-bytes.ensures.bytes c.as_slice.ensures.value made.1 made.0 c.in_ok-read.ensures.ok c.in_ok-read.ensures.read
