use Rattle.std.proofs.Common.{◌≤◌, ◌++◌, length, take, drop, sym, ap, ◌∙◌, arith}
use Rattle.std.proofs.lemmas.List.{append-nil}
use Rattle.rga_sequence.specs.Entries.{ids, visible_count, visible_ids}
use Rattle.rga_ops.proofs.CaseSteps.{on_ok_map}
use Rattle.rga_sequence.proofs.CountLaws.{all_visible, count_ids, count_within, range_none}
use Rattle.rga_sequence.proofs.block.Block.push_visible.Goals as goal

pub returns-then-lo-self : goal.returns-then-lo-self
returns-then-lo-self c = record {
  ok =
      let none : length (visible_ids c.args.self.now) ≤ c.args.lo = omega (arith, count_ids c.args.self.now, ap visible_count c.self.view_is, c.self.invariant.counted, c.if-lo-self.true) in
      sym (append-nil c.args.list.now.items) ∙ ap (λ xs. c.args.list.now.items ++ xs) (sym (range_none (visible_ids c.args.self.now) c.args.lo c.args.hi none));
}

pub push_id_range-requires-clause-within : goal.push_id_range-requires-clause-within
push_id_range-requires-clause-within c = omega (arith, ap length c.as_slice-entries.ensures.value, c.if-lo-self.false, c.self.invariant.counted, count_within c.self.inside.entries.items)

pub returns-then-self-entries : goal.returns-then-self-entries
returns-then-self-entries c = record {
  ok =
      let all : length c.self.inside.entries.items ≤ visible_count c.self.inside.entries.items = omega (arith, ap length c.as_slice-entries.ensures.value, c.if-self-entries.true, c.self.invariant.counted) in
      on_ok_map c.push_id_range.result
      (λ e. e
      ∙ ap (λ xs. c.args.list.now.items ++ drop c.args.lo (take c.args.hi (ids xs))) (c.as_slice-entries.ensures.value ∙ sym (all_visible c.self.inside.entries.items all))
      ∙ ap (λ xs. c.args.list.now.items ++ drop c.args.lo (take c.args.hi (visible_ids xs))) c.self.view_is)
      c.push_id_range.ensures.ok;
}
