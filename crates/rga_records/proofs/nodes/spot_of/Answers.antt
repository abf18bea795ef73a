use Rattle.std.proofs.Common.{◌≡◌, ◌<◌, ℕ, false, List, length, slice_index_or, ap, ◌∙◌, subst, sym, arith}
use Rattle.std.specs.Prelude.{None}
use Rattle.rga_ops.specs.Identifier.{Identifier, root}
use Rattle.rga_pages.specs.declared.entry.Record.{Record}
use Rattle.rga_pages.specs.Pages.{Entries}
use Rattle.rga_pages.proofs.SpotLaws.{spot_there}
use Rattle.rga_records.proofs.nodes.spot_of.Goals as goal

pub returns-in-Some-clause-spot : goal.returns-in-Some-clause-spot
returns-in-Some-clause-spot c =
    let ps : List Entries = c.args.pages.now.items in
    let p : ℕ = c.saturating_sub-before.result in
    let w : p < length ps = omega (arith, c.saturating_sub-before.ensures, c.requires.within, c.args.pages.now.ok.0) in
    let is : c.entries-entries.result.now ≡ slice_index_or ps p c.index.result.now = c.entries-entries.ensures ∙ c.index.ensures in
    let e : Identifier × Record = nothing in
    spot_there ps p c.in-Some.near c.args.id c.index.result.now w e
    (subst (λ y. c.in-Some.near < length y) is c.in-Some.ensures.within)
    (ap (λ y. (slice_index_or y c.in-Some.near e).0) (sym is) ∙ c.in-Some.ensures.there e)
    c.requires.ordered
  where
    nothing : Identifier × Record
    nothing = (root, record { parent = root; ch = None; block = 0; index = 0; deleted = false })
