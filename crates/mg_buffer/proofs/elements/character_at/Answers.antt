use Rattle.mg_buffer.proofs.Prelude.{rules, ◌≡◌, ℕ, sym, ◌∙◌, option_map, Identifier}
use Rattle.rga_ops.specs.Content.{element_at}
use Rattle.mg_buffer.proofs.ElementLaws.{character_is, past_the_text}
use Rattle.mg_buffer.proofs.elements.character_at.Goals as goal

pub returns-in-Some : goal.returns-in-Some
returns-in-Some g c =
    let ch : c.map.result ≡ option_map (λ (p : Identifier × ℕ). p.1) (element_at (g.S.Taker.content c.args.store.now) c.in-Some.id) = search rules in
    ch ∙ sym (character_is (g.S.Taker.content c.args.store.now) c.args.place c.in-Some.id (sym c.element_at.ensures ∙ c.in-Some.is))

pub returns-in-None : goal.returns-in-None
returns-in-None g c = sym (past_the_text (g.S.Taker.content c.args.store.now) c.args.place (sym c.element_at.ensures ∙ c.in-None.is))
