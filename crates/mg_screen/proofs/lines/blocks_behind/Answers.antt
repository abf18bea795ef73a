use Rattle.std.proofs.Common.{◌≡◌, ◌+◌, ◌-◌, take, drop, count_by, ap, sym, ◌∙◌, arith}
use Rattle.mg_screen.specs.declared.lines.TheConstants.{BLOCK}
use Rattle.mg_screen.specs.Lines.{ends_line}
use Rattle.mg_screen.proofs.BlockLaws.{clear_behind}
use Rattle.mg_screen.proofs.lines.blocks_behind.Goals as goal

pub loop-end-preserved : goal.loop-end-preserved
loop-end-preserved c =
    let size : c.loop-end.end + BLOCK - c.loop-end.end ≡ BLOCK = omega arith in
    let none : count_by ends_line (take BLOCK (drop c.loop-end.end c.args.text.now)) ≡ 0 =
    ap (λ n. count_by ends_line (take n (drop c.loop-end.end c.args.text.now))) (sym size) ∙ sym c.newlines.ensures.exact ∙ c.if-newlines-eq0.true in
    let line = clear_behind c.args.text.now c.loop-end.end BLOCK (omega (arith, c.loop-end-test.true, c.loop-end.invariant.within)) none in
    record {
      within = omega (arith, c.loop-end-test.true, c.loop-end.invariant.within);
      same_line = line ∙ c.loop-end.invariant.same_line;
    }
