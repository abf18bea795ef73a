use Rattle.std.proofs.Common.{◌≡◌, ◌≤◌, ◌<◌, ◌+◌, vec_len, vec_capacity, true, false, length, take}
use Rattle.rga_ops.specs.Identifier.{is_root}
use Rattle.rga_sequence.specs.declared.putting.TheConstants.{MOST_AT_ONCE}
use Rattle.rga_flat.specs.Chains.{IsGathered, ChainShows}
use Rattle.rga_flat.specs.Flat.{is_above}
use Rattle.rga_records.specs.Chains.{last_entry_of}
use Rattle.rga_flat.proofs.chains.gather.Given as goal

-- the first operations lead to the content, and the last one's identifier is above what follows
abbrev pub invariant-loop-op : goal.invariant-loop-op
invariant-loop-op l = record {
  count : length l.entries.items ≡ l.op-index;
  few : length l.entries.items ≤ MOST_AT_ONCE;
  gathered : IsGathered l.initial.records.limit l.initial.records.content l.records.content (take (length l.entries.items) l.ops) l.initial.steps.items l.steps.items;
  shows : ChainShows l.initial.records.content l.records.content l.fn.parent l.entries.items l.waiting;
  last : l.last ≡ last_entry_of l.fn.parent l.entries.items;
  proper : 0 < length l.entries.items → is_root l.last ≡ false;
  above : is_above l.records.content l.last ≡ true;
  room : vec_capacity l.entries ≡ vec_capacity l.initial.entries;
  noted : vec_len l.steps ≡ vec_len l.initial.steps + l.op-index;
  steps_room : vec_capacity l.steps ≡ vec_capacity l.initial.steps;
  limit : l.records.limit ≡ l.initial.records.limit;
}
