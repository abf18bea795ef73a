use Rattle.rga_doc.proofs.Prelude.{◌≡◌, ◌≤◌, ◌-◌, ℕ, suc, sym, ap, ◌∙◌, subst, arith, Some, Content, id_of, StandsBetween}
use Rattle.rga_doc.proofs.RereadingLaws.{between_more}
use Rattle.rga_doc.proofs.rereading.Margins.round.Goals as goal

-- the element of the next operation stands between, too
pub loop-op-preserved : goal.loop-op-preserved
loop-op-preserved g c =
    let content : Content = g.S.Taker.content c.args.store.now in
    let front : ℕ = c.min.result in
    let back : ℕ = c.min-in-loop-op.result in
    let next : c.in_ok-place.place ≡ suc (c.in_ok-place.place - 1) = omega (arith, c.if-place-eq0.false) in
    let less : front ≤ c.loop-op.margins.front = omega (arith, c.min.ensures) in
    let fewer : back ≤ c.loop-op.margins.back = omega (arith, c.min-in-loop-op.ensures) in
    let here : StandsBetween content front back (id_of c.op-item.result) =
    subst (StandsBetween content front back) c.id.ensures
    record {
      index = c.in_ok-place.place - 1;
      placed = sym c.place_of.ensures ∙ c.in_ok-place.was ∙ ap Some next;
      not_in_front = omega (arith, c.min.ensures);
      not_at_back = omega (arith, c.min-in-loop-op.ensures, c.visible_len-count.ensures, c.if-place-eq0.false, c.if-place-count.false);
    } in
    record {
      between = between_more content c.loop-op.margins.front c.loop-op.margins.back front back c.loop-op.op-index c.args.ops.now c.op-item.result c.loop-op-test.true c.op-item.is less fewer c.loop-op.invariant.between here;
      front = omega (arith, less, c.loop-op.invariant.front);
      back = omega (arith, fewer, c.loop-op.invariant.back);
    }
