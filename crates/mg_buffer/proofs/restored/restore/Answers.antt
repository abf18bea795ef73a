use Rattle.mg_buffer.proofs.Prelude.{rules, ◌≡◌, None, subst, is_id, IsFirst}
use Rattle.indexmap.specs.IndexMap.{get}
use Rattle.indexmap.proofs.CallerLemmas.{insert_entry-new}
use Rattle.mg_buffer.proofs.restored.restore.Goals as goal

pub returns-else-is_err-clause-entries : goal.returns-else-is_err-clause-entries
returns-else-is_err-clause-entries c =
    let old = c.args.restored.now in
    let first : get is_id old c.in-Insert.parent ≡ None = subst (IsFirst old.entries) c.in-Insert.is c.requires.first in
    let last = insert_entry-new is_id old c.in-Insert.parent c.in-Insert.id first in
    search rules
