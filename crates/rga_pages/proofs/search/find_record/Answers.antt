use Rattle.std.proofs.Common.{◌<◌, slice_index_or, sym, ap, ◌∙◌, subst}
use Rattle.std.specs.Prelude.{Some, true}
use Rattle.rga_pages.specs.Pages.{IsSpot}
use Rattle.rga_pages.proofs.SpotLaws.{record_there, record_none}
use Rattle.rga_pages.proofs.search.find_record.Goals as goal

here : (c : goal.After-index-entries-spot) → IsSpot c.args.pages.now.items c.find-spot.result.page c.find-spot.result.index true c.args.id
here c = subst (λ b. IsSpot c.args.pages.now.items c.find-spot.result.page c.find-spot.result.index b c.args.id) c.if-spot.true c.find-spot.ensures.spot

pub returns-then-spot-clause-spot : goal.returns-then-spot-clause-spot
returns-then-spot-clause-spot c = here c

pub returns-then-spot-clause-record : goal.returns-then-spot-clause-record
returns-then-spot-clause-record c =
    record_there c.args.pages.now.items c.find-spot.result.page c.find-spot.result.index c.args.id c.index.result.now (subst (λ n. c.find-spot.result.page < n) c.args.pages.now.ok.0 c.find-spot.ensures.page) (here c) c.index-entries-spot.result
    ∙ ap (λ y. Some (slice_index_or y c.find-spot.result.index c.index-entries-spot.result).1) (sym (c.entries.ensures ∙ c.index.ensures))

pub returns-clause-none : goal.returns-clause-none
returns-clause-none c = λ _. record_none c.find-spot.ensures.spot c.if-spot.false c.requires.ordered
