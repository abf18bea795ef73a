use Rattle.rga_doc.proofs.Prelude.{◌≡◌, ◌≤◌, ◌-◌, ◌++◌, ℕ, List, take, drop, length, sym, ap, ◌∙◌, arith, take_all, Splice, text_after, are_falling, end_of}
use Rattle.rga_doc.proofs.AnewLaws.{IsNext, is_next, falling_end, falling_to_end, text_more, text_whole}
use Rattle.rga_doc.proofs.characters.Characters.spliced.Goals as goal

pub extend_part-requires-clause-ordered : goal.extend_part-requires-clause-ordered
extend_part-requires-clause-ordered c =
    let splices : List Splice = c.args.splices.now in
    let left : ℕ = c.loop-left.left in
    let s : Splice = c.index-splices-left.result in
    let next : IsNext splices (length c.args.self.now.items) (left - 1) left s =
    is_next splices (length c.args.self.now.items) (left - 1) left s (omega (arith, c.loop-left-test.true)) c.requires (omega (arith, c.loop-left-test.true, c.loop-left.invariant.left)) c.index-splices-left.is in
    let begin : c.splice.inside.lo ≡ s.lo = ap (λ (x : Splice). x.lo) c.splice.view_is in
    omega (arith, begin, next.apart, c.loop-left.invariant.end)

pub extend_part-requires-clause-within : goal.extend_part-requires-clause-within
extend_part-requires-clause-within c =
    let splices : List Splice = c.args.splices.now in
    let left : ℕ = c.loop-left.left in
    let s : Splice = c.index-splices-left.result in
    let next : IsNext splices (length c.args.self.now.items) (left - 1) left s =
    is_next splices (length c.args.self.now.items) (left - 1) left s (omega (arith, c.loop-left-test.true)) c.requires (omega (arith, c.loop-left-test.true, c.loop-left.invariant.left)) c.index-splices-left.is in
    let begin : c.splice.inside.lo ≡ s.lo = ap (λ (x : Splice). x.lo) c.splice.view_is in
    omega (arith, begin, next.up, next.within, ap length c.as_slice-old.ensures)

-- one splice more is done
pub loop-left-preserved : goal.loop-left-preserved
loop-left-preserved c =
    let splices : List Splice = c.args.splices.now in
    let left : ℕ = c.loop-left.left in
    let s : Splice = c.index-splices-left.result in
    let characters : List ℕ = c.args.self.now.items in
    let rest : List Splice = drop left splices in
    let next : IsNext splices (length characters) (left - 1) left s =
    is_next splices (length characters) (left - 1) left s (omega (arith, c.loop-left-test.true)) c.requires (omega (arith, c.loop-left-test.true, c.loop-left.invariant.left)) c.index-splices-left.is in
    let put : c.as_slice.result.now ≡ s.put = c.as_slice.ensures.value ∙ ap (λ (x : Splice). x.put) c.splice.view_is in
    let begin : c.splice.inside.lo ≡ s.lo = ap (λ (x : Splice). x.lo) c.splice.view_is in
    let end : c.splice.inside.hi ≡ s.hi = ap (λ (x : Splice). x.hi) c.splice.view_is in
    let apart : c.loop-left.end ≤ s.lo = omega (arith, next.apart, c.loop-left.invariant.end) in
    record {
      characters =
          c.in_ok-extend.ensures.items
          ∙ (λ k. c.in_ok-extend_part.ensures.items k ++ put k)
          ∙ (λ k. (c.loop-left.next.items ++ drop c.loop-left.end (take (begin k) (c.as_slice-old.ensures k))) ++ s.put)
          ∙ text_more characters c.loop-left.next.items s rest c.loop-left.end c.loop-left.invariant.characters c.loop-left.invariant.falling apart next.up next.within
          ∙ (λ k. text_after (take (sym end k) characters) (sym next.split k));
      end = end ∙ ap end_of (sym next.split);
      falling = (λ k. are_falling (end k) (next.split k)) ∙ falling_to_end s rest next.up next.further;
      left = omega (arith, c.loop-left.invariant.left);
    }

-- all are done, and what is behind them is kept
pub returns : goal.returns
returns c = record {
  ok =
      let splices : List Splice = c.args.splices.now in
      let characters : List ℕ = c.args.self.now.items in
      let none : c.loop-left.left ≡ 0 = omega (arith, c.loop-left-test.false) in
      let all : drop c.loop-left.left splices ≡ splices = ap (λ n. drop n splices) none in
      let within : c.loop-left.end ≤ length characters =
      omega (arith, c.loop-left.invariant.end, ap end_of all, falling_end splices (length characters) c.requires) in
      c.in_ok-extend_part-2.ensures.items
      ∙ ap (λ xs. c.loop-left.next.items ++ drop c.loop-left.end xs) (take_all (length c.as_slice-old.result.now) c.as_slice-old.result.now (omega arith) ∙ c.as_slice-old.ensures)
      ∙ text_whole characters c.loop-left.next.items splices c.loop-left.end
      (c.loop-left.invariant.characters ∙ ap (text_after (take c.loop-left.end characters)) all)
      (ap (are_falling c.loop-left.end) (sym all) ∙ c.loop-left.invariant.falling) within;
}
