use Rattle.std.proofs.Common.{◌≡◌, ◌≤◌, ◌-◌, true, drop, length}
use Rattle.std.specs.FinMap as finite_map
use Rattle.std.specs.BTreeSet.{contains}
use Rattle.rga_ops.specs.Identifier.{Identifier, id_cmp}
use Rattle.rga_ops.specs.Answer.{taken_one_by_one}
use Rattle.rga_store.specs.Back.{without_noted, CanTakeBack}
use Rattle.rga_flat.specs.Based.{IsBased}
use Rattle.rga_flat.specs.Flat.{IsFlat}
use Rattle.rga_flat.specs.Waiting.{under, has_list, is_listed}
use Rattle.rga_flat.proofs.whole_list.take_whole.Given as goal

-- what is left leads where the whole list leads, and the steps lead back
abbrev pub invariant-loop-index : goal.invariant-loop-index
invariant-loop-index l = record {
  within : l.index ≤ length l.ops;
  limit : l.records.limit ≡ l.initial.records.limit;
  rest : taken_one_by_one l.records.limit l.records.content (drop l.index l.ops) ≡ taken_one_by_one l.initial.records.limit l.initial.records.content l.ops;
  back : CanTakeBack l.steps.items l.records.content;
  start : without_noted l.steps.items l.records.content ≡ l.initial.records.content;
  flat : IsFlat l.records.content l.sequence (under l.waiting) (is_listed l.waiting l.done);
  based : IsBased l.initial.records.content l.records.content (under l.waiting) (has_list l.waiting);
  listed : (p : Identifier) → contains id_cmp l.done p ≡ true → has_list l.waiting p ≡ true;
  inserted : (p : Identifier) → contains id_cmp l.done p ≡ true → finite_map.contains_key l.records.content.inserted p ≡ true;
}

abbrev pub decreases-loop-index : goal.decreases-loop-index
decreases-loop-index l = length l.ops - l.index
