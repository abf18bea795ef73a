use Rattle.std.proofs.Common.{◌≤◌, ◌<◌, ◌+◌, sym, subst, arith}
use Rattle.rga_ops.specs.Content.{clock_of, join, known_count, single}
use Rattle.rga_ops.specs.declared.op.Op.TheVariants.{Insert}
use Rattle.rga_store.specs.Kept.{Kept}
use Rattle.rga_store.specs.Counted.{IsCounted}
use Rattle.rga_store.proofs.CountedLaws.{few_inserted}
use Rattle.rga_records.specs.Records.{content_of_records}
use Rattle.rga_records.proofs.NewerLaws.{newer_absent, newer_unmarked, counted_newer}
use Rattle.rga_records.proofs.records_by_id.Records.insert_newer.Goals as goal

pub set_element-requires-clause-absent : goal.set_element-requires-clause-absent
set_element-requires-clause-absent c =
    newer_absent (content_of_records c.self.inside.entries) c.args.id (subst (λ (v : Kept). clock_of v.content < c.args.id.counter) (sym c.self.view_is) c.requires.newer)

pub set_element-requires-clause-deleted : goal.set_element-requires-clause-deleted
set_element-requires-clause-deleted c =
    sym (newer_unmarked (content_of_records c.self.inside.entries) c.args.id (subst (λ (v : Kept). clock_of v.content < c.args.id.counter) (sym c.self.view_is) c.requires.newer))

pub overflow_add-self : goal.overflow_add-self
overflow_add-self c =
    let few : c.self.inside.inserted ≤ 1000000 = few_inserted (content_of_records c.self.inside.entries) c.self.inside.clock c.self.inside.inserted c.self.inside.known c.self.inside.limit c.self.invariant.counted in
    omega arith

pub invariant_of-self-2 : goal.invariant_of-self-2
invariant_of-self-2 c = record {
  ordered = c.set_element.ensures.ordered;
  counted =
      subst (λ d. IsCounted d c.counter-self-inside.result (c.self.inside.inserted + 1) (c.self.inside.known + 1) c.self.inside.limit) (sym c.in_ok-set_element.ensures.content)
      (subst (λ n. IsCounted (join (content_of_records c.self.inside.entries) (single (Insert c.args.id c.args.parent c.args.ch))) n (c.self.inside.inserted + 1) (c.self.inside.known + 1) c.self.inside.limit) (sym c.counter-self-inside.ensures.value)
      (counted_newer (content_of_records c.self.inside.entries) c.self.inside.clock c.self.inside.inserted c.self.inside.known c.self.inside.limit c.self.invariant.counted c.args.id c.args.parent c.args.ch
      (subst (λ (v : Kept). clock_of v.content < c.args.id.counter) (sym c.self.view_is) c.requires.newer)
      c.requires.rises
      (subst (λ n. n < c.self.inside.limit) (sym c.self.invariant.counted.known)
      (subst (λ (v : Kept). known_count v.content < v.limit) (sym c.self.view_is) c.requires.room))));
}
