use Rattle.std.proofs.Common.{◌≡◌, ◌<◌, ◌+◌, [], List, take, drop, slice_index_or, slice_set, sym, ap, ◌∙◌, subst}
use Rattle.std.specs.Prelude.{insert}
use Rattle.rga_pages.specs.Parts.{cut_in}
use Rattle.rga_pages.specs.Pages.{Entries, entries_in, AreFilledPages}
use Rattle.rga_pages.proofs.PartLaws.{halved, cut_flat, filled_cut}
use Rattle.rga_pages.proofs.putting.halve.Goals as goal

cut : (c : goal.After-pages-1) → slice_set c.insert.new.self.items c.args.page c.cut.new.self ≡ cut_in c.args.pages.now.items c.args.page c.args.cut
cut c =
    let ps : List Entries = c.args.pages.now.items in
    let put : c.insert.new.self.items ≡ insert ps (c.args.page + 1) (drop c.args.cut (slice_index_or ps c.args.page c.index.result.now)) = c.in_ok-insert.ensures.items ∙ ap (insert ps (c.args.page + 1)) (c.in_ok-tail.ensures.ok ∙ ap (drop c.args.cut) c.index.ensures) in
    ap (slice_set c.insert.new.self.items c.args.page) (c.cut.ensures ∙ ap (take c.args.cut) c.index_mut.ensures.value)
    ∙ ap (λ zs. slice_set zs c.args.page (take c.args.cut (slice_index_or zs c.args.page c.index_mut.result.now))) put
    ∙ halved ps c.args.page c.args.cut c.index.result.now c.index_mut.result.now (subst (λ n. c.args.page < n) c.args.pages.now.ok.0 c.requires.page)

pub returns-clause-flat : goal.returns-clause-flat
returns-clause-flat c = ap entries_in (cut c) ∙ cut_flat c.args.pages.now.items c.args.page c.args.cut

pub returns-clause-filled : goal.returns-clause-filled
returns-clause-filled c = subst AreFilledPages (sym (cut c)) (filled_cut c.args.pages.now.items c.args.page c.args.cut [] c.requires.filled c.requires.first c.requires.second)
