use Rattle.std.proofs.Common.{sym}
use Rattle.mgr_show.proofs.AuthorLaws.{authored_is}
use Rattle.mgr_show.proofs.laws.characters_are_of_visible_elements.Goals as goal

pub returns-clause-elements : goal.returns-clause-elements
returns-clause-elements c = λ content. sym (authored_is content)
