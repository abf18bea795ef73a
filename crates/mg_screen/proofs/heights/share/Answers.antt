use Rattle.std.proofs.Common.{◌≡◌, ◌-◌, ◌*◌, ◌<◌, ◌∙◌, arith, length, get_or, min, ap, length-set}
use Rattle.std.proofs.Math.Nat.{min-le_right}
use Rattle.std.proofs.lemmas.List.{get_or_read}
use Rattle.mg_screen.proofs.ResizeLaws.{share_more, share_last}
use Rattle.mg_screen.proofs.heights.share.Goals as goal

pub loop-i-preserved : goal.loop-i-preserved
loop-i-preserved c =
    let hs = c.loop-i.heights.items in
    let i = c.loop-i.i in
    let last = length c.as_slice.result.now - 1 in
    let n = c.min-height.result in
    let inside : i < last = omega (arith, c.loop-i-test.true) in
    let here : i < length hs = omega (arith, inside, c.loop-i.invariant.whole) in
    let height = get_or_read hs _ _ here c.index.ensures 0 in
    let is : n ≡ min (get_or hs i 0) (c.loop-i.room - 2 * (last - i) - 1) = c.min-height.ensures ∙ ap (λ h. min h (c.loop-i.room - 2 * (last - i) - 1)) height in
    let most = min-le_right (get_or hs i 0) (c.loop-i.room - 2 * (last - i) - 1) in
    record {
      told = share_more i last c.loop-i.room n hs _ inside c.loop-i.invariant.whole is c.loop-i.invariant.told;
      whole = omega (arith, c.loop-i.invariant.whole, length-set hs i n);
      enough = omega (arith, is, most, inside, c.loop-i.invariant.enough);
    }

pub returns : goal.returns
returns c = record {
  exact =
      let i : c.loop-i.i ≡ length c.as_slice.result.now - 1 = omega (arith, c.loop-i-test.false, c.loop-i.auto.i-end) in
      share_last (length c.as_slice.result.now - 1) c.loop-i.room c.loop-i.heights.items c.loop-i.invariant.whole ∙ (rw i at c.loop-i.invariant.told);
}
