use Rattle.std.proofs.Common.{◌+◌, ◌++◌, drop, encode_utf8, sym, ap, ◌∙◌}
use Rattle.std.specs.Prelude.{string_bytes, encode_utf8_all}
use Rattle.std.proofs.lemmas.List.{append_assoc}
use Rattle.rga_ops.proofs.ListSteps.{from}
use Rattle.rga_flat.proofs.reading.string_of.Goals as goal

pub loop-ch-preserved : goal.loop-ch-preserved
loop-ch-preserved c =
    ap (λ bs. bs ++ encode_utf8_all (drop (c.loop-ch.ch-index + 1) c.args.chars.now)) c.in_ok-push.ensures.bytes
    ∙ append_assoc (string_bytes c.loop-ch.string) (encode_utf8 c.ch-item.result) (encode_utf8_all (drop (c.loop-ch.ch-index + 1) c.args.chars.now))
    ∙ ap (λ xs. string_bytes c.loop-ch.string ++ encode_utf8_all xs) (sym (from c.args.chars.now c.loop-ch.ch-index c.ch-item.result c.loop-ch-test.true c.ch-item.is))
    ∙ c.loop-ch.invariant
