use Rattle.std.proofs.Common.{◌≡◌, ◌+◌, ◌-◌, take, drop, count_by, ap, sym, ◌∙◌, arith}
use Rattle.mg_screen.specs.declared.lines.TheConstants.{BLOCK}
use Rattle.mg_screen.specs.Lines.{ends_line, column_of}
use Rattle.mg_screen.proofs.BlockLaws.{clear_before}
use Rattle.mg_screen.proofs.lines.blocks_before.Goals as goal

pub loop-begin-preserved : goal.loop-begin-preserved
loop-begin-preserved c =
    let behind : c.loop-begin.begin - BLOCK + BLOCK ≡ c.loop-begin.begin = omega (arith, c.loop-begin-test.true) in
    let size : c.loop-begin.begin - (c.loop-begin.begin - BLOCK) ≡ BLOCK = omega (arith, c.loop-begin-test.true) in
    let none : count_by ends_line (take BLOCK (drop (c.loop-begin.begin - BLOCK) c.args.text.now)) ≡ 0 =
    ap (λ n. count_by ends_line (take n (drop (c.loop-begin.begin - BLOCK) c.args.text.now))) (sym size) ∙ sym c.newlines.ensures.exact ∙ c.if-newlines-eq0.true in
    let line = clear_before c.args.text.now (c.loop-begin.begin - BLOCK) BLOCK (omega (arith, behind, c.loop-begin.invariant.within, c.requires)) none in
    record {
      within = omega (arith, c.loop-begin.invariant.within);
      same_line = omega (arith, line, ap (column_of c.args.text.now) behind, behind, c.loop-begin.invariant.within, c.loop-begin.invariant.same_line);
    }
