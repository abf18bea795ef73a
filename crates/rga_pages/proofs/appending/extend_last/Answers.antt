use Rattle.std.proofs.Common.{◌++◌, ◌-◌, ℕ, List, slice_set, ap, ◌∙◌, arith}
use Rattle.rga_pages.specs.Pages.{Entries, entries_in}
use Rattle.rga_ops.proofs.CaseSteps.{on_ok_map}
use Rattle.rga_pages.proofs.PlaceLaws.{extended}
use Rattle.rga_pages.proofs.appending.extend_last.Goals as goal

pub returns-clause-ok : goal.returns-clause-ok
returns-clause-ok c =
    let ps : List Entries = c.args.pages.now.items in
    let p : ℕ = c.len-last.result - 1 in
    on_ok_map c.extend.result
    (λ e. ap (λ y. entries_in (slice_set ps p y)) (e ∙ ap (λ y. y ++ c.args.entries.now) c.index_mut.ensures.value)
    ∙ extended ps p c.args.entries.now c.index_mut.result.now
    (omega (arith, c.if-entries-eq0.false, c.requires.some, c.len-last.ensures, c.args.pages.now.ok.0))
    (omega (arith, c.len-last.ensures, c.args.pages.now.ok.0)))
    c.extend.ensures.ok
