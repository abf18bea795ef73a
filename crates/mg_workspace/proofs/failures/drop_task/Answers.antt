use Rattle.std.proofs.Common.{rules, not}
use Rattle.mg_workspace.specs.Failures.{is_of}
use Rattle.mg_workspace.proofs.FailureLaws.{filter_retained}
use Rattle.mg_workspace.proofs.failures.drop_task.Goals as goal

pub returns : goal.returns
returns c =
    filter_retained _ (λ x. not (is_of c.args.buffer c.args.task x)) _ (λ x b f y k. search rules) c.args.standing.now.items c.retain.new.self.items
    c.retain.ensures.filtered
