use Rattle.std.proofs.Common.{map, sym, ap, ◌∙◌, subst}
use Rattle.std.specs.Result.{OnOk}
use Rattle.rga_ops.specs.Operations.{insertions, deletions, insertion_of}
use Rattle.rga_ops.specs.declared.op.Op.TheVariants.{Delete}
use Rattle.rga_store.specs.Kept.{Kept}
use Rattle.rga_records.proofs.SortedRecordLaws.{deletions_listed, insertions_listed}
use Rattle.rga_records.proofs.ToldLaws.{told_deletions, told_insertions}
use Rattle.rga_records.proofs.records_by_id.Records.tell_both.Goals as goal

pub returns-clause-insertions : goal.returns-clause-insertions
returns-clause-insertions g c =
    subst (λ ops. OnOk c.tell_pages.result (g.L.Listener.hears c.args.of_insertions.now ops c.tell_pages.new.of_insertions))
    (ap told_insertions c.pages.ensures.pages ∙ sym (ap (map insertion_of) (insertions_listed c.self.inside.entries c.pages.ensures.ordered)) ∙ ap (λ (v : Kept). insertions v.content) c.self.view_is)
    c.tell_pages.ensures.insertions

pub returns-clause-deletions : goal.returns-clause-deletions
returns-clause-deletions g c =
    subst (λ ops. OnOk c.tell_pages.result (g.M.Listener.hears c.args.of_deletions.now ops c.tell_pages.new.of_deletions))
    (ap told_deletions c.pages.ensures.pages ∙ sym (ap (map Delete) (deletions_listed c.self.inside.entries c.pages.ensures.ordered)) ∙ ap (λ (v : Kept). deletions v.content) c.self.view_is)
    c.tell_pages.ensures.deletions
