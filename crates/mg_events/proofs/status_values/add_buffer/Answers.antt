use Rattle.mg_events.specs.StatusText.{buffer_parts}
use Rattle.mg_events.proofs.AddedLemmas.{nothing, next, token, object_added}
use Rattle.mg_events.proofs.status_values.add_buffer.Goals as goal

pub returns : goal.returns
unfolding buffer_parts
returns c =
    next (token c.in_ok-key.ensures) (object_added (buffer_parts c.args.buffer.now) (token c.in_ok-begin_object.ensures)
    (next c.in_ok-add_flag.ensures (next c.in_ok-add_text.ensures (next c.in_ok-add_count.ensures (next c.in_ok-add_count-2.ensures nothing))))
    (token c.in_ok-end_object.ensures))
