use Rattle.std.proofs.Common.{rules, ◌+◌, ◌≤◌, length, arith, sym, ◌∙◌}
use Rattle.rga_ops.specs.Content.{Content}
use Rattle.rga_ops.specs.Order.{text}
use Rattle.rga_ops.specs.Places.{visible}
use Rattle.rga_ops.proofs.VisibleLaws.{text_long}
use Rattle.mg_buffer.proofs.ElementLaws.{alike_behind, ends_behind, none_behind, other_behind}
use Rattle.mg_buffer.proofs.elements.stands.Goals as goal

pub returns-then-k-behind : goal.returns-then-k-behind
returns-then-k-behind g c =
    let content : Content = g.S.Taker.content c.args.store.now in
    let long : length (visible content) ≤ c.args.place + c.loop-k.k = search rules in
    let ends : length (text content) ≤ c.args.place + c.loop-k.k = omega (arith, long, text_long content) in
    sym (c.loop-k.invariant.same ∙ ends_behind _ _ _ _ c.loop-k-test.true ends)

pub returns-in_default : goal.returns-in_default
returns-in_default g c = sym (c.loop-k.invariant.same ∙ none_behind c.args.pattern.now (text (g.S.Taker.content c.args.store.now)) c.args.place c.loop-k.k c.loop-k-test.true (sym c.character_at.ensures ∙ c.in_default.is))

pub returns-then-not-alike : goal.returns-then-not-alike
returns-then-not-alike g c =
    sym (c.loop-k.invariant.same
    ∙ other_behind _ _ _ _ c.loop-k-test.true c.index-pattern-k.result c.in-Some.ch c.index-pattern-k.is (sym c.character_at.ensures ∙ c.in-Some.is) (sym c.alike.ensures ∙ c.if-not-alike.true))

pub loop-k-preserved : goal.loop-k-preserved
loop-k-preserved g c = record {
  same = c.loop-k.invariant.same
      ∙ alike_behind _ _ _ _ c.loop-k-test.true c.index-pattern-k.result c.in-Some.ch c.index-pattern-k.is (sym c.character_at.ensures ∙ c.in-Some.is) (sym c.alike.ensures ∙ c.if-not-alike.false);
  inside = omega arith;
}
