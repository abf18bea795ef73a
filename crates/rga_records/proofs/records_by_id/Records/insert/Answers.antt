use Rattle.std.proofs.Common.{◌≤◌, ◌+◌, cond, ap, ◌∙◌, sym, subst, arith}
use Rattle.std.specs.Prelude.{◌≡◌, Ok, max}
use Rattle.std.specs.FinSet as finite_set
use Rattle.rga_ops.specs.Answer.{answer}
use Rattle.rga_ops.specs.declared.op.Op.TheVariants.{Insert}
use Rattle.rga_ops.specs.declared.refusal.Taken.TheVariants.{New}
use Rattle.rga_store.specs.Kept.{Kept}
use Rattle.rga_store.proofs.CountedLaws.{few_inserted}
use Rattle.rga_records.specs.Records.{content_of_records}
use Rattle.rga_records.proofs.CountedLaws.{records_insertion}
use Rattle.rga_records.proofs.records_by_id.Records.insert.Goals as goal

pub overflow_add-self : goal.overflow_add-self
overflow_add-self c =
    let few : c.self.inside.inserted ≤ 1000000 = few_inserted (content_of_records c.self.inside.entries) c.self.inside.clock c.self.inside.inserted c.self.inside.known c.self.inside.limit c.self.invariant.counted in
    omega arith

pub invariant_of-self-2 : goal.invariant_of-self-2
invariant_of-self-2 c =
    records_insertion c.self.inside.entries c.set_element.new.entries c.self.inside.clock c.self.inside.inserted c.self.inside.known c.self.inside.limit c.self.invariant
    c.in_ok-set_element.ensures.ordered c.args.id c.args.parent c.args.ch c.raise.new.clock c.count_unless.new.count
    (subst (λ (v : Kept). answer v.limit v.content (Insert c.args.id c.args.parent c.args.ch) ≡ Ok New) (sym c.self.view_is) c.requires.new)
    c.in_ok-set_element.ensures.content
    (c.raise.ensures ∙ ap (max c.self.inside.clock) c.counter.ensures.value)
    (c.count_unless.ensures ∙ ap (λ b. cond b c.self.inside.known (c.self.inside.known + 1)) (c.requires.deleted ∙ ap (λ (v : Kept). finite_set.contains v.content.deleted c.args.id) (sym c.self.view_is)))
