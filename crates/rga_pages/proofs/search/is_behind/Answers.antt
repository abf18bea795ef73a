use Rattle.std.proofs.Common.{◌≡◌, ◌-◌, suc, take, sym, ap, ◌∙◌, subst, arith}
use Rattle.std.specs.Ordering.{is_gt}
use Rattle.rga_ops.specs.Identifier.{id_cmp}
use Rattle.rga_pages.specs.Pages.{AreBelow}
use Rattle.rga_pages.proofs.EntryLaws.{take_below}
use Rattle.rga_pages.proofs.search.is_behind.Goals as goal

pub returns-then-index-eq0-clause-below : goal.returns-then-index-eq0-clause-below
returns-then-index-eq0-clause-below c = λ t. subst (λ n. AreBelow c.args.id (take n c.args.entries.now)) (sym c.if-index-eq0.true) tt

pub returns-clause-below : goal.returns-clause-below
returns-clause-below c = λ t.
    let same : suc (c.args.index - 1) ≡ c.args.index = omega (arith, c.if-index-eq0.false) in
    subst (λ n. AreBelow c.args.id (take n c.args.entries.now)) same
    (take_below c.args.id c.args.entries.now (c.args.index - 1) c.index-entries-index.result c.requires.ordered (omega (arith, c.if-index-eq0.false, c.requires.within))
    (ap (λ e. is_gt (id_cmp c.args.id e.0)) (sym c.index-entries-index.is) ∙ sym c.is_below.ensures ∙ t))
