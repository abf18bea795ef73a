use Rattle.std.proofs.Common.{ap, subst}
use Rattle.std.specs.Prelude.{encode_utf8_all}
use Rattle.rga_ops.specs.Splice.{Splice}
use Rattle.mg_events.specs.Added.{AddsValue}
use Rattle.mg_events.specs.StatusText.{splice_json, splice_parts}
use Rattle.mg_events.proofs.AddedLemmas.{nothing, next, token, object_added, same_text}
use Rattle.mg_events.proofs.status_values.add_splice.Goals as goal

pub returns : goal.returns
unfolding splice_parts
returns c =
    let inside : Splice = record { hi = c.splice.inside.hi; lo = c.splice.inside.lo; put = c.splice.inside.put.items } in
    subst (λ (s : Splice). AddsValue c.args.writer.now c.end_object.new.self (splice_json s)) c.splice.view_is
    (object_added (splice_parts inside) (token c.in_ok-begin_object.ensures) (next c.in_ok-add_count.ensures (next c.in_ok-add_count-2.ensures
    (next (same_text (ap encode_utf8_all c.as_slice.ensures.value) c.in_ok-add_characters.ensures) nothing))) (token c.in_ok-end_object.ensures))
