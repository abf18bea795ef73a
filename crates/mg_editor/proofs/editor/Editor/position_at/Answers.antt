use Rattle.std.proofs.Common.{◌∙◌, ap, position}
use Rattle.rga_ops.specs.Content.{Content}
use Rattle.rga_ops.specs.Identifier.{is_id}
use Rattle.rga_ops.specs.Places.{visible}
use Rattle.mg_buffer.specs.OpenState.{OpenState}
use Rattle.mg_workspace.specs.AtIndex.{state_at}
use Rattle.mg_editor.specs.Editors.{Editor}
use Rattle.mg_editor.proofs.editor.Editor.position_at.Goals as goal

pub returns-clause-exact : goal.returns-clause-exact
returns-clause-exact g c =
    let content =
    c.store.ensures.content ∙ ap (λ (b : OpenState). b.buffer.content) (c.behind-self.view_is ∙ c.at.ensures)
    ∙ ap (λ (e : Editor). (state_at c.args.index e.work).content) c.self.view_is in
    c.position_of.ensures.exact ∙ ap (λ (held : Content). position (λ x. is_id x c.args.id) (visible held)) content
