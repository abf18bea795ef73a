use Rattle.std.proofs.Common.{◌∙◌, ◌++◌, ◌∷◌, [], ap, ap₂, string_bytes, sym}
use Rattle.std.proofs.lemmas.List.{map_more, map_push}
use Rattle.clap.specs.Walk.{texts}
use Rattle.mgr_args.proofs.job.texts_of.Goals as goal

pub loop-word-preserved : goal.loop-word-preserved
loop-word-preserved c =
    let pushed = ap texts (c.in_ok-push.ensures.items) ∙ map_push (λ s. s.now) c.loop-word.given.items c.as_str.result in
    let text = c.as_str.ensures.value ∙ ap string_bytes c.word-item.is in
    pushed ∙ ap₂ (λ ts t. ts ++ t ∷ []) c.loop-word.invariant text
    ∙ sym (map_more string_bytes c.args.words.now c.loop-word.word-index c.word-item.result c.loop-word-test.true)
