use Rattle.rga_doc.proofs.Prelude.{rules, ◌≡◌, Some, List, [], ◌∷◌, ◌++◌, map, take, drop, sym, ap, ◌∙◌, arith, take_all, Content, element_at, text, visible, character, Identifier}
use Rattle.rga_ops.proofs.SpliceLaws.{same_characters}
use Rattle.rga_doc.proofs.RereadingLaws.{part_of_text, read_more}
use Rattle.rga_doc.proofs.rereading.characters_between.Goals as goal

-- the characters of all of them
pub returns : goal.returns
returns g c =
    let content : Content = g.S.Taker.content c.args.store.now in
    let ids : List Identifier = c.deref-id-items.result.now in
    let listed : c.in_ok-elements.elements.items ≡ drop c.args.lo (take c.args.hi (visible content)) = search rules in
    let all : take c.loop-id.id-index ids ≡ drop c.args.lo (take c.args.hi (visible content)) =
    take_all c.loop-id.id-index ids (omega (arith, c.loop-id-test.false)) ∙ c.deref-id-items.ensures.value ∙ listed in
    same_characters c.loop-id.characters.items (drop c.args.lo (take c.args.hi (text content)))
    (c.loop-id.invariant ∙ ap (map (character content)) all ∙ sym (part_of_text content c.args.lo c.args.hi))

pub loop-id-preserved : goal.loop-id-preserved
loop-id-preserved g c =
    let content : Content = g.S.Taker.content c.args.store.now in
    let found : element_at content c.id-item.result ≡ Some (c.in_ok-ch.field-0-0, c.in_ok-ch.ch) = sym c.get.ensures ∙ c.in_ok-ch.was in
    let pushed : c.push.new.self.items ≡ c.loop-id.characters.items ++ c.in_ok-ch.ch ∷ [] = search rules in
    ap (map Some) pushed
    ∙ read_more content c.deref-id-items.result.now c.loop-id.id-index c.id-item.result (c.in_ok-ch.field-0-0, c.in_ok-ch.ch) c.loop-id.characters.items (omega (arith, c.loop-id-test.true)) c.id-item.is found c.loop-id.invariant
