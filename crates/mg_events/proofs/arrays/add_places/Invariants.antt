use Rattle.std.proofs.Common.{drop, map}
use Rattle.mg_events.specs.StatusText.{place_json}
use Rattle.mg_events.proofs.AddedLemmas.{Left}
use Rattle.mg_events.proofs.arrays.add_places.Given as goal

abbrev pub invariant-loop-place : goal.invariant-loop-place
invariant-loop-place l = Left l.initial.writer l.writer (map place_json l.places) (map place_json (drop l.place-index l.places))
