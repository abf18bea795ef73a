use Rattle.std.proofs.Common.{◌≡◌, length}
use Rattle.serde_json.specs.View.{items_view}
use Rattle.mg_events.specs.Reports.{are_arrays}
use Rattle.mg_events.proofs.values.are_arrays.Given as goal

abbrev pub invariant-items : goal.invariant-items
invariant-items l = are_arrays (items_view l.rest) ≡ are_arrays (items_view l.items)

abbrev pub decreases-items : goal.decreases-items
decreases-items l = length l.rest
