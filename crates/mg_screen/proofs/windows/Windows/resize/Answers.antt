use Rattle.std.proofs.Common.{◌∙◌, ◌-◌, ap, arith}
use Rattle.mg_screen.specs.Layout.{shared, resized_layout}
use Rattle.mg_screen.proofs.HeightLaws.{fills}
use Rattle.mg_screen.proofs.ResizeLaws.{current_resized, resized_made, resized_kept}
use Rattle.mg_screen.proofs.windows.Windows.resize.Goals as goal

pub invariant_of-self : goal.invariant_of-self
invariant_of-self g c =
    let w = c.self.inside in
    let made = c.share.ensures.exact ∙ ap (shared (c.args.rows - 1)) c.keep.ensures in
    resized_kept w.heights.items c.share.new.heights.items w.shown.items c.keep-2.new.items.items w.current c.saturating_sub-gone.result w.rows c.args.rows
    c.self.invariant c.requires.rows_from c.requires.rows_to c.saturating_sub-gone.ensures made c.keep-2.ensures

pub returns-clause-exact : goal.returns-clause-exact
returns-clause-exact g c =
    let w = c.self.inside in
    let made = c.share.ensures.exact ∙ ap (shared (c.args.rows - 1)) c.keep.ensures in
    resized_made w.heights.items c.share.new.heights.items w.shown.items c.keep-2.new.items.items w.current c.saturating_sub-gone.result c.args.rows
    c.self.invariant.paired c.saturating_sub-gone.ensures made c.keep-2.ensures
    ∙ ap (resized_layout c.args.rows) c.self.view_is

pub returns-clause-filled : goal.returns-clause-filled
returns-clause-filled g c =
    fills c.share.new.heights.items c.keep-2.new.items.items (c.self.inside.current - c.saturating_sub-gone.result) c.args.rows (invariant_of-self g c)

pub returns-clause-stays : goal.returns-clause-stays
returns-clause-stays g c = current_resized c.args.rows c.args.self.now _ c.requires.rows_from (returns-clause-exact g c)
