use Rattle.std.proofs.Common.{sym, subst}
use Rattle.std.specs.Prelude.{codes}
use Rattle.mg_events.specs.Added.{AddsMember}
use Rattle.mg_events.specs.Objects.{value_or_null}
use Rattle.mg_events.specs.StatusText.{prompt_json, prompt_parts}
use Rattle.mg_events.proofs.AddedLemmas.{nothing, next, token, object_added}
use Rattle.mg_events.proofs.status_values.add_prompt.Goals as goal

pub returns : goal.returns
unfolding prompt_parts
returns c =
    subst (λ o. AddsMember c.args.writer.now c.end_object.new.self (codes "prompt") (value_or_null prompt_json o)) (sym c.in-Some.is)
    (next (token c.in_ok-key.ensures) (object_added (prompt_parts c.in-Some.prompt) (token c.in_ok-begin_object.ensures)
    (next c.in_ok-add_characters.ensures (next c.in_ok-add_text.ensures nothing)) (token c.in_ok-end_object.ensures)))
