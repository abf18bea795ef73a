use Rattle.std.proofs.Common.{◌∙◌}
use Rattle.mg_workspace.proofs.AtIndexLaws.{left_at, took_at}
use Rattle.mg_workspace.proofs.workspace.Workspace.take_all_at.Goals as goal

pub returns-clause-taken : goal.returns-clause-taken
returns-clause-taken g c =
    took_at c.args.index _ _ _ _ _ c.args.ops.now c.self.view_is (c.opened.view_is ∙ c.at_mut-opened.ensures.value) c.apply_all.ensures.follows

pub returns-clause-same : goal.returns-clause-same
returns-clause-same g c =
    left_at c.args.index _ _ _ _ _ c.args.ops.now c.self.view_is (c.opened.view_is ∙ c.at_mut-opened.ensures.value) c.apply_all.ensures.follows
