use Rattle.std.proofs.Common.{◌||◌, sym, ◌∙◌}
use Rattle.std.specs.List.{list_any}
use Rattle.rga_ops.proofs.IdentifierLaws.{is, is_swap, is_id-same}
use Rattle.rga_tree.proofs.ChildListLaws.{has-any}
use Rattle.rga_store.proofs.CaseSteps.{true_where}
use Rattle.rga_tree.proofs.child_list.put_among_many.Goals as goal

pub returns-clause-added : goal.returns-clause-added
returns-clause-added c = λ k.
    has-any c.insert.new.self.keys k
    ∙ c.in_ok-insert.ensures.updates.0 k
    ∙ true_where (is c.args.id k) (list_any (is k) c.args.set.now.keys)
    ∙ (λ i. sym (has-any c.args.set.now.keys k) i || (is_swap c.args.id k ∙ sym (is_id-same c.args.id k)) i)
