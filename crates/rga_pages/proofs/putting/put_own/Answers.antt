use Rattle.std.proofs.Common.{◌<◌, length, sym, ap, ◌∙◌, subst, arith}
use Rattle.std.specs.Prelude.{insert}
use Rattle.rga_pages.specs.Pages.{AreFilledPages}
use Rattle.rga_pages.proofs.PartLaws.{filled_insert}
use Rattle.rga_pages.proofs.putting.put_own.Goals as goal

pub returns-clause-ok : goal.returns-clause-ok
returns-clause-ok c = c.in_ok-insert.ensures.items ∙ ap (insert c.args.pages.now.items c.args.index) c.in_ok-own.ensures.ok

pub returns-clause-filled : goal.returns-clause-filled
returns-clause-filled c =
    subst AreFilledPages (sym c.in_ok-insert.ensures.items)
    (filled_insert c.args.pages.now.items c.args.index c.in_ok-own.own c.requires.filled (subst (λ y. 0 < length y) (sym c.in_ok-own.ensures.ok) (omega arith)))
