use Rattle.std.proofs.Common.{◌≡◌}
use Rattle.rga_flat.specs.Waiting.{under, is_listed, SettlesLists, AreInserted}
use Rattle.rga_flat.specs.Placing.{IsPlacing, taken_out}
use Rattle.rga_flat.proofs.PlacingLaws.{left}
use Rattle.rga_flat.proofs.placing.place_all.Given as goal

-- the entries are those of a part, and what was placed can be taken out again
abbrev pub invariant-loop-top : goal.invariant-loop-top
invariant-loop-top l = record {
  kept : l.records ≡ l.initial.records;
  placing : IsPlacing l.records.content (under l.waiting) (is_listed l.waiting l.done) l.sequence l.work.items;
  back : taken_out l.placed.items l.sequence ≡ l.initial.sequence;
  settles : SettlesLists l.waiting l.initial.done l.done;
  inserted : AreInserted l.initial.records.content l.initial.done l.done;
}

abbrev pub decreases-loop-top : goal.decreases-loop-top
decreases-loop-top l = left l.records.content l.sequence
