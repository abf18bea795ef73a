use Rattle.std.proofs.Common.{[], ◌∷◌}
use Rattle.json.specs.Json.{string}
use Rattle.mg_events.specs.Objects.{count}
use Rattle.mg_events.specs.StatusText.{count_and_text}
use Rattle.mg_events.proofs.AddedLemmas.{nothing, next, token, array_added}
use Rattle.mg_events.proofs.status_values.add_count_and_text.Goals as goal

pub returns : goal.returns
unfolding count_and_text
returns c =
    array_added (count c.args.value ∷ string c.args.text.now ∷ []) (token c.in_ok-begin_array.ensures)
    (next (token c.in_ok-u64.ensures) (next (token c.in_ok-string.ensures) nothing)) (token c.in_ok-end_array.ensures)
