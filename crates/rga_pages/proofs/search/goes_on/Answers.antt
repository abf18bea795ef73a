use Rattle.std.proofs.Common.{take, sym, ap, ◌∙◌, subst, arith, add-one}
use Rattle.std.proofs.lemmas.List.{drop_all}
use Rattle.std.specs.Ordering.{is_gt}
use Rattle.rga_ops.specs.Identifier.{id_cmp}
use Rattle.rga_pages.specs.Pages.{AreBelow, StartsFrom}
use Rattle.rga_pages.proofs.EntryLaws.{take_below}
use Rattle.rga_pages.proofs.search.goes_on.Goals as goal

pub returns-then-index-entries-clause-from : goal.returns-then-index-entries-clause-from
returns-then-index-entries-clause-from c = λ f. subst (StartsFrom c.args.id) (sym (drop_all c.args.index c.args.entries.now (omega (arith, c.if-index-entries.true)))) tt

pub returns-clause-below : goal.returns-clause-below
returns-clause-below c = λ t.
    subst (λ n. AreBelow c.args.id (take n c.args.entries.now)) (sym (add-one c.args.index))
    (take_below c.args.id c.args.entries.now c.args.index c.index-entries-index.result c.requires (omega (arith, c.if-index-entries.false))
    (ap (λ e. is_gt (id_cmp c.args.id e.0)) (sym c.index-entries-index.is) ∙ sym c.is_below.ensures ∙ t))
