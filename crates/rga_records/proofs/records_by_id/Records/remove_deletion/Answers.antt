use Rattle.std.proofs.Common.{◌≤◌, ◌-◌, cond, sym, ap, ◌∙◌, subst}
use Rattle.std.specs.FinSet as finite_set
use Rattle.rga_ops.specs.Content.{clock_of}
use Rattle.rga_store.specs.Kept.{Kept}
use Rattle.rga_store.specs.Without.{without_deletion}
use Rattle.rga_store.proofs.WithoutLaws.{one_deletion_known}
use Rattle.rga_records.specs.Records.{content_of_records}
use Rattle.rga_records.proofs.CountedLaws.{records_without_deletion}
use Rattle.rga_records.proofs.records_by_id.Records.remove_deletion.Goals as goal

pub uncount_unless-requires : goal.uncount_unless-requires
uncount_unless-requires c =
    subst (λ b. cond b 0 1 ≤ c.self.inside.known) (sym c.clear_mark-inserted.ensures.inserted)
    (one_deletion_known (content_of_records c.self.inside.entries) c.self.inside.clock c.self.inside.inserted c.self.inside.known c.self.inside.limit c.self.invariant.counted c.args.id
    (ap (λ (v : Kept). finite_set.contains v.content.deleted c.args.id) c.self.view_is ∙ c.requires.deleted))

pub invariant_of-self : goal.invariant_of-self
invariant_of-self c =
    records_without_deletion c.self.inside.entries c.clear_mark-inserted.new.entries c.self.inside.clock c.self.inside.inserted c.self.inside.known c.self.inside.limit c.self.invariant
    c.clear_mark-inserted.ensures.ordered c.args.id c.args.clock c.uncount_unless.new.count
    (ap (λ (v : Kept). finite_set.contains v.content.deleted c.args.id) c.self.view_is ∙ c.requires.deleted)
    c.clear_mark-inserted.ensures.content
    (c.requires.clock ∙ ap (λ (v : Kept). clock_of (without_deletion c.args.id v.content)) (sym c.self.view_is))
    (c.uncount_unless.ensures ∙ ap (λ b. cond b c.self.inside.known (c.self.inside.known - 1)) c.clear_mark-inserted.ensures.inserted)
