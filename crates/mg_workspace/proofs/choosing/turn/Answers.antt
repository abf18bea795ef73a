use Rattle.std.proofs.Common.{sym, subst, ◌∙◌}
use Rattle.mg_workspace.specs.Viewports.{viewport, AreShown}
use Rattle.mg_workspace.proofs.ViewportLaws.{show_at, turned_current}
use Rattle.mg_workspace.proofs.choosing.turn.Goals as goal

pub returns-clause-shown : goal.returns-clause-shown
returns-clause-shown g c =
    let l = c.args.windows.now in
    let x = viewport c.current_index-buffer.result c.current_viewport-first.result.first in
    subst (AreShown c.args.buffers.now) (sym c.show.ensures.exact) record {
      few = c.requires.few;
      each = show_at _ c.current.result x l.windows c.current_index-buffer.ensures.within c.requires.each;
      current = turned_current l c.current.result x c.current.ensures.exact c.current.ensures.within ∙ c.current_index-buffer.ensures.exact;
    }
