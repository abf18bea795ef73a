use Rattle.std.proofs.Common.{◌+◌, cond, ap, ◌∙◌, sym}
use Rattle.std.specs.Prelude.{max}
use Rattle.rga_records.specs.Records.{content_of_records}
use Rattle.rga_records.proofs.CountedLaws.{records_deletion}
use Rattle.rga_records.proofs.NewerLaws.{deletion_is_new}
use Rattle.rga_records.proofs.records_by_id.Records.delete_inserted.Goals as goal

pub invariant_of-self-2 : goal.invariant_of-self-2
invariant_of-self-2 c =
    records_deletion c.self.inside.entries c.mark_inserted.new.entries c.self.inside.clock c.self.inside.inserted c.self.inside.known c.self.inside.limit c.self.invariant
    c.mark_inserted.ensures.ordered c.args.id c.raise.new.clock c.self.inside.known
    (deletion_is_new c.self.inside.limit (content_of_records c.self.inside.entries) c.args.id c.requires (c.mark_inserted.ensures.inserted c.if-not-mark_inserted.false) (c.mark_inserted.ensures.unmarked c.if-not-mark_inserted.false))
    (c.mark_inserted.ensures.content c.if-not-mark_inserted.false)
    (c.raise.ensures ∙ ap (max c.self.inside.clock) c.counter.ensures.value)
    (sym (ap (λ b. cond b c.self.inside.known (c.self.inside.known + 1)) (c.mark_inserted.ensures.inserted c.if-not-mark_inserted.false)))
