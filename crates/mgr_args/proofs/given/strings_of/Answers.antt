use Rattle.std.proofs.Common.{◌∙◌, ◌++◌, ◌∷◌, [], ap, ap₂, string_bytes, sym, map}
use Rattle.std.proofs.lemmas.List.{map_more, map_push}
use Rattle.mgr_args.proofs.given.strings_of.Goals as goal

pub loop-word-preserved : goal.loop-word-preserved
loop-word-preserved c =
    let pushed = ap (map string_bytes) (c.in_ok-push.ensures.items) ∙ map_push string_bytes c.loop-word.strings.items c.in_ok-from_str.field-0 in
    pushed ∙ ap₂ (λ ts t. ts ++ t ∷ []) c.loop-word.invariant c.in_ok-from_str.ensures.ok
    ∙ sym (map_more (λ w. w.now) c.args.words.now c.loop-word.word-index _ c.loop-word-test.true)
