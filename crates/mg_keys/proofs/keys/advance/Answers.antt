use Rattle.std.proofs.Common.{subst}
use Rattle.mg_keys.specs.declared.step.Mode.TheVariants.{Prompt, Search}
use Rattle.mg_keys.specs.Advance.{Advances}
use Rattle.mg_keys.specs.Begun.{KeyState}
use Rattle.mg_keys.proofs.TextLaws.{prompt_character, search_character}
use Rattle.mg_keys.proofs.keys.advance.Goals as goal

pub returns-in-Character : goal.returns-in-Character
returns-in-Character c =
    let keys : KeyState = record { mode = c.keys.inside.mode; argument = c.keys.inside.argument; sequence = c.keys.inside.sequence } in
    subst (λ (k : KeyState). Advances k c.args.byte c.text_advance.result) c.keys.view_is
    (prompt_character keys c.in-Character.begun c.args.byte c.text_advance.result c.in-Prompt.is c.in-Character.is (c.text_advance.ensures Prompt))

pub returns-in-Character-sequence : goal.returns-in-Character-sequence
returns-in-Character-sequence c =
    let keys : KeyState = record { mode = c.keys.inside.mode; argument = c.keys.inside.argument; sequence = c.keys.inside.sequence } in
    subst (λ (k : KeyState). Advances k c.args.byte c.text_advance-in-Character-sequence.result) c.keys.view_is
    (search_character keys c.in-Character-sequence.begun c.args.byte c.text_advance-in-Character-sequence.result c.in-Search.is c.in-Character-sequence.is (c.text_advance-in-Character-sequence.ensures Search))
