use Rattle.std.proofs.Common.{◌+◌, cond, ap, ◌∙◌, sym, subst}
use Rattle.std.specs.Prelude.{◌≡◌, Ok, max}
use Rattle.rga_ops.specs.Answer.{answer}
use Rattle.rga_ops.specs.declared.op.Op.TheVariants.{Delete}
use Rattle.rga_ops.specs.declared.refusal.Taken.TheVariants.{New}
use Rattle.rga_store.specs.Kept.{Kept}
use Rattle.rga_records.proofs.CountedLaws.{records_deletion}
use Rattle.rga_records.proofs.records_by_id.Records.delete.Goals as goal

pub invariant_of-self-2 : goal.invariant_of-self-2
invariant_of-self-2 c =
    records_deletion c.self.inside.entries c.mark.new.entries c.self.inside.clock c.self.inside.inserted c.self.inside.known c.self.inside.limit c.self.invariant
    c.in_ok-inserted.ensures.ordered c.args.id c.raise.new.clock c.count_unless.new.count
    (subst (λ (v : Kept). answer v.limit v.content (Delete c.args.id) ≡ Ok New) (sym c.self.view_is) c.requires)
    c.in_ok-inserted.ensures.content
    (c.raise.ensures ∙ ap (max c.self.inside.clock) c.counter.ensures.value)
    (c.count_unless.ensures ∙ ap (λ b. cond b c.self.inside.known (c.self.inside.known + 1)) c.in_ok-inserted.ensures.inserted)
