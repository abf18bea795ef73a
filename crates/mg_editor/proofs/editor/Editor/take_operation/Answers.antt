use Rattle.std.proofs.Common.{[], ◌∷◌}
use Rattle.mg_editor.proofs.LiveLaws.{took_so}
use Rattle.mg_editor.proofs.editor.Editor.take_operation.Goals as goal

pub returns-clause-taken : goal.returns-clause-taken
returns-clause-taken g c =
    took_so c.args.index (c.args.op ∷ []) c.args.self.now (record { work = c.self.inside.work; talk = c.self.inside.talk }) c.take_at.new.self c.anchors-anchors.result c.put_search.new.self
    c.self.view_is c.anchors-anchors.ensures c.in_ok-taken.ensures.taken c.put_search.ensures
