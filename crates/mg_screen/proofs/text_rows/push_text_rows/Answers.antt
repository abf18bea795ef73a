use Rattle.std.proofs.Common.{◌≡◌, ◌∙◌, ◌++◌, ◌-◌, ◌+◌, ap, append-nil, arith, map, string_bytes, suc, sym}
use Rattle.mg_screen.specs.Frame.{text_rows}
use Rattle.mg_screen.specs.Lines.{lines_on}
use Rattle.mg_screen.specs.Written.{utf8}
use Rattle.mg_screen.proofs.ScreenLaws.{text_row_on}
use Rattle.mg_screen.proofs.text_rows.push_text_rows.Goals as goal

pub loop-i-preserved : goal.loop-i-preserved
loop-i-preserved c =
    let one : c.args.height - c.loop-i._i ≡ suc (c.args.height - (c.loop-i._i + 1)) = omega (arith, c.loop-i-test.true) in
    record {
      told = text_row_on _ _ _ _ _ _ _ _ _ _ one c.in_ok-row.ensures.row c.in_ok-row.ensures.next c.in_ok-push_row.ensures c.loop-i.invariant.told;
      within = c.in_ok-row.ensures.bound;
    }

pub returns : goal.returns
returns c =
    let none : c.args.height - c.loop-i._i ≡ 0 = omega (arith, c.loop-i-test.false) in
    let told = map string_bytes c.loop-i.rows.items in
    sym (append-nil told) ∙ ap (λ n. told ++ utf8 (text_rows c.args.columns n (lines_on c.args.text.now c.loop-i.start))) (sym none) ∙ c.loop-i.invariant.told
