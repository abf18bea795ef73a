use Rattle.std.proofs.Common.{◌≡◌, ◌++◌, length}
use Rattle.std.specs.Prelude.{option_map}
use Rattle.serde_json.specs.View.{items_view}
use Rattle.mg_events.specs.Reports.{places_of}
use Rattle.mg_events.proofs.values.places_of.Given as goal

-- what is taken, and what is to come behind it
abbrev pub invariant-items : goal.invariant-items
invariant-items l = option_map (λ ids. l.all.items ++ ids) (places_of (items_view l.rest)) ≡ places_of (items_view l.items)

abbrev pub decreases-items : goal.decreases-items
decreases-items l = length l.rest
