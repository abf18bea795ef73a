use Rattle.std.proofs.Common.{◌≡◌, ◌≤◌, ◌<◌, ◌+◌, true, cond, ap, ◌∙◌, sym, subst, arith}
use Rattle.std.specs.Prelude.{Ok, max}
use Rattle.rga_ops.specs.Content.{known_count}
use Rattle.rga_store.specs.Kept.{Kept}
use Rattle.rga_store.proofs.CountedLaws.{few_inserted}
use Rattle.rga_records.specs.Records.{content_of_records}
use Rattle.rga_records.proofs.CountedLaws.{records_insertion}
use Rattle.rga_records.proofs.NewerLaws.{absent_is_new}
use Rattle.rga_records.proofs.records_by_id.Records.insert_absent.Goals as goal

pub overflow_add-self : goal.overflow_add-self
overflow_add-self c =
    let few : c.self.inside.inserted ≤ 1000000 = few_inserted (content_of_records c.self.inside.entries) c.self.inside.clock c.self.inside.inserted c.self.inside.known c.self.inside.limit c.self.invariant.counted in
    omega arith

pub invariant_of-self-2 : goal.invariant_of-self-2
invariant_of-self-2 c =
    let added : c.add_element.result ≡ Ok true = c.in_ok-add_element.was ∙ ap Ok c.if-not-branch.false in
    records_insertion c.self.inside.entries c.add_element.new.entries c.self.inside.clock c.self.inside.inserted c.self.inside.known c.self.inside.limit c.self.invariant
    c.add_element.ensures.ordered c.args.id c.args.parent c.args.ch c.raise.new.clock (c.self.inside.known + 1)
    (absent_is_new c.self.inside.limit (content_of_records c.self.inside.entries) c.args.id c.args.parent c.args.ch (c.add_element.ensures.absent added) c.requires.rises
    (subst (λ (v : Kept). known_count v.content < v.limit) (sym c.self.view_is) c.requires.room))
    (c.add_element.ensures.content added)
    (c.raise.ensures ∙ ap (max c.self.inside.clock) c.counter.ensures.value)
    (sym (ap (λ b. cond b c.self.inside.known (c.self.inside.known + 1)) (c.add_element.ensures.unmarked added)))
