use Rattle.std.proofs.Common.{◌≡◌, drop}
use Rattle.rga_ops.specs.Answer.{taken_one_by_one}
use Rattle.rga_store.specs.Back.{without_noted, CanTakeBack}
use Rattle.rga_records.proofs.taker.take_whole.Given as goal

-- what is left leads where the whole list leads, and the steps lead back
abbrev pub invariant-loop-op : goal.invariant-loop-op
invariant-loop-op l = record {
  limit : l.records.limit ≡ l.initial.records.limit;
  rest : taken_one_by_one l.records.limit l.records.content (drop l.op-index l.ops) ≡ taken_one_by_one l.initial.records.limit l.initial.records.content l.ops;
  back : CanTakeBack l.steps.items l.records.content;
  start : without_noted l.steps.items l.records.content ≡ l.initial.records.content;
}
