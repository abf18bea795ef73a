use Rattle.std.proofs.Common.{arith, length, get_or, ◌≡◌, ◌-◌, sym, ◌∙◌}
use Rattle.std.proofs.lemmas.Grind.{get_or_default_zero}
use Rattle.mg_live.proofs.ChangeLaws.{next_at_end, next_other_at_end}
use Rattle.mg_live.proofs.changes.common_end.Goals as goal

pub alike-preserved : goal.alike-preserved
alike-preserved c =
    let old = c.args.old.now in
    let new = c.args.new.now in
    let i = c.alike.count in
    let first : c.index-old-old.result ≡ get_or old (length old - 1 - i) 0 =
    c.index-old-old.is ∙ get_or_default_zero old (length old - 1 - i) _ (omega (arith, c.alike-test.true)) in
    let second : c.index-new-new.result ≡ get_or new (length new - 1 - i) 0 =
    c.index-new-new.is ∙ get_or_default_zero new (length new - 1 - i) _ (omega (arith, c.if-count-new.true)) in
    let next = next_at_end old new i 0 (omega (arith, c.alike-test.true)) (omega (arith, c.if-count-new.true)) (sym first ∙ c.if-old-count.true ∙ second) in
    record { exact = omega (arith, c.alike.invariant.exact, next); old = omega (arith, c.alike-test.true); new = omega (arith, c.if-count-new.true) }

pub returns-else-old-count-clause-exact : goal.returns-else-old-count-clause-exact
returns-else-old-count-clause-exact c =
    let old = c.args.old.now in
    let new = c.args.new.now in
    let i = c.alike.count in
    let first : c.index-old-old.result ≡ get_or old (length old - 1 - i) 0 =
    c.index-old-old.is ∙ get_or_default_zero old (length old - 1 - i) _ (omega (arith, c.alike-test.true)) in
    let second : c.index-new-new.result ≡ get_or new (length new - 1 - i) 0 =
    c.index-new-new.is ∙ get_or_default_zero new (length new - 1 - i) _ (omega (arith, c.if-count-new.true)) in
    let next = next_other_at_end old new i 0 (omega (arith, c.alike-test.true)) (omega (arith, c.if-count-new.true)) (λ is. c.if-old-count.false (first ∙ is ∙ sym second)) in
    omega (arith, c.alike.invariant.exact, next)
