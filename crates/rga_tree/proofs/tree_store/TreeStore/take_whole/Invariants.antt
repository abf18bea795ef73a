use Rattle.std.proofs.Common.{◌≡◌, drop}
use Rattle.rga_ops.specs.Answer.{taken_one_by_one}
use Rattle.rga_store.specs.Back.{without_noted, CanTakeBack}
use Rattle.rga_tree.proofs.tree_store.TreeStore.take_whole.Given as goal

-- what is left leads where the whole list leads, and the steps lead back
abbrev pub invariant-loop-op : goal.invariant-loop-op
invariant-loop-op l = record {
  limit : l.self.limit ≡ l.initial.self.limit;
  rest : taken_one_by_one l.self.limit l.self.content (drop l.op-index l.ops) ≡ taken_one_by_one l.initial.self.limit l.initial.self.content l.ops;
  back : CanTakeBack l.steps.items l.self.content;
  start : without_noted l.steps.items l.self.content ≡ l.initial.self.content;
}
