use Rattle.std.proofs.Common.{◌≡◌, ◌+◌, ◌≤◌, [], length}
use Rattle.std.specs.List.{All}
use Rattle.std.specs.Map.{values_of}
use Rattle.mgr_show.specs.Tallies.{and_tallies}
use Rattle.mgr_show.specs.declared.tallies.Tally.{Tally}
use Rattle.mgr_show.proofs.tallies.tallies_of.Given as goal

-- what is told and what is left are all; no replica is told more characters than were passed
abbrev pub invariant-ops : goal.invariant-ops
invariant-ops l = record {
  told : and_tallies l.tallies.entries l.rest ≡ and_tallies [] l.fn.ops;
  left : length l.rest ≤ length l.fn.ops;
  few : All (λ (t : Tally). t.characters + length l.rest ≤ length l.fn.ops) (values_of l.tallies.entries);
}

abbrev pub decreases-ops : goal.decreases-ops
decreases-ops l = length l.rest
