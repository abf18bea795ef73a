use Rattle.std.proofs.Common.{◌∙◌, ap}
use Rattle.std.specs.List.{list_any}
use Rattle.mg_editor.specs.Editors.{Editor}
use Rattle.mg_editor.specs.LiveSaving.{is_log_due}
use Rattle.mg_editor.proofs.SweepLaws.{any_log_due}
use Rattle.mg_editor.proofs.editor.Editor.owes_log.Goals as goal

pub returns : goal.returns
returns g c =
    c.is_any_due.ensures
    ∙ any_log_due 0 c.self.inside.work.buffers.all
    ∙ ap (λ (e : Editor). list_any is_log_due e.work.buffers.all) c.self.view_is
