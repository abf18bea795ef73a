use Rattle.std.proofs.Common.{◌<◌, List, length, sym, ◌∙◌, subst}
use Rattle.rga_pages.specs.Pages.{Entries, BeginsWith}
use Rattle.rga_pages.proofs.PlaceLaws.{filled_at, first_above, first_below}
use Rattle.rga_pages.proofs.search.starts_above.Goals as goal

pub returns-clause-above : goal.returns-clause-above
returns-clause-above c = λ t.
    let ps : List Entries = c.args.pages.now.items in
    let w : c.args.page < length ps = subst (λ n. c.args.page < n) c.args.pages.now.ok.0 c.requires.within in
    first_above ps c.args.page c.index.result.now c.requires.ordered w c.args.id c.first.result (filled_at ps c.args.page c.index.result.now c.requires.filled w)
    (subst (BeginsWith c.first.result) c.index.ensures c.first.ensures)
    (sym c.is_less.ensures ∙ t)

pub returns-clause-below : goal.returns-clause-below
returns-clause-below c = λ f.
    let ps : List Entries = c.args.pages.now.items in
    let w : c.args.page < length ps = subst (λ n. c.args.page < n) c.args.pages.now.ok.0 c.requires.within in
    first_below ps c.args.page c.index.result.now c.requires.ordered w c.args.id c.first.result (filled_at ps c.args.page c.index.result.now c.requires.filled w)
    (subst (BeginsWith c.first.result) c.index.ensures c.first.ensures)
    (sym c.is_less.ensures ∙ f)
