use Rattle.std.proofs.Common.{◌≡◌, ◌≤◌, ◌<◌, ◌+◌, vec_len, vec_capacity, true, false, length, take}
use Rattle.std.specs.FinMap as finite_map
use Rattle.rga_ops.specs.Identifier.{is_root}
use Rattle.rga_ops.specs.Content.{known_count}
use Rattle.rga_store.specs.Counted.{IsCounted}
use Rattle.rga_records.specs.Chains.{grown, last_entry_of, AreNewer}
use Rattle.rga_flat.specs.Chains.{IsGathered, ChainShows}
use Rattle.rga_flat.specs.Flat.{is_above}
use Rattle.rga_flat.proofs.newer.scan.Given as goal

-- the first operations lead to a content that has grown, and the last one's identifier is above what follows
abbrev pub invariant-loop-op : goal.invariant-loop-op
invariant-loop-op l = record {
  count : length l.entries.items ≡ l.op-index;
  few : length l.entries.items ≤ l.most;
  newer : AreNewer l.records.content l.fn.parent l.entries.items;
  counted : IsCounted (grown l.records.content l.fn.parent l.entries.items) l.clock (finite_map.len (grown l.records.content l.fn.parent l.entries.items).inserted) (known_count l.records.content + length l.entries.items) l.records.limit;
  gathered : IsGathered l.records.limit l.records.content (grown l.records.content l.fn.parent l.entries.items) (take (length l.entries.items) l.ops) l.initial.steps.items l.steps.items;
  shows : ChainShows l.records.content (grown l.records.content l.fn.parent l.entries.items) l.fn.parent l.entries.items l.waiting;
  last : l.last ≡ last_entry_of l.fn.parent l.entries.items;
  proper : 0 < length l.entries.items → is_root l.last ≡ false;
  above : is_above (grown l.records.content l.fn.parent l.entries.items) l.last ≡ true;
  room : vec_capacity l.entries ≡ vec_capacity l.initial.entries;
  noted : vec_len l.steps ≡ vec_len l.initial.steps + l.op-index;
  steps_room : vec_capacity l.steps ≡ vec_capacity l.initial.steps;
}
