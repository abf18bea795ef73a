use Rattle.mgr_show.specs.Told.{size_members}
use Rattle.mgr_show.proofs.told.push_size_members.Goals as goal

pub returns : goal.returns
unfolding size_members
returns c = rw (c.name_of_end-end.ensures, c.name_of_text-is.ensures) at c.write.ensures.bytes
