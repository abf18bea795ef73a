use Rattle.std.proofs.Common.{◌≡◌, ◌+◌, length, sym, ap, ◌∙◌, arith}
use Rattle.std.specs.FinSet as finite_set
use Rattle.rga_ops.specs.Content.{Content, known_ids}
use Rattle.rga_pages.specs.Pages.{entries_in}
use Rattle.rga_records.specs.Records.{content_of_records, unknown_ids}
use Rattle.rga_records.proofs.MergingLaws.{unknown_counted, unknown_few}
use Rattle.rga_records.proofs.merging.count_unknown.Goals as goal

pub count_in_pages-requires : goal.count_in_pages-requires
count_in_pages-requires c =
    let own : Content = content_of_records c.args.own.now in
    let same : length (unknown_ids own (entries_in c.pages.result.now.items)) ≡ length (unknown_ids own c.args.others.now) = ap (λ es. length (unknown_ids own es)) c.pages.ensures.pages in
    omega (arith, same, unknown_few own c.args.others.now c.pages.ensures.ordered, c.requires)

pub returns : goal.returns
returns c =
    let own : Content = content_of_records c.args.own.now in
    ap (λ n. finite_set.len (known_ids own) + n) (c.count_in_pages.ensures ∙ ap (λ es. length (unknown_ids own es)) c.pages.ensures.pages)
    ∙ sym (unknown_counted own c.args.others.now c.pages.ensures.ordered)
