use Rattle.rga_lines.proofs.Prelude.{rules, arith, ◌≡◌, ◌+◌, ◌-◌, [], ◌∷◌, ◌++◌, sym, ap, ◌∙◌, identifier, Delete, deletions_from}
use Rattle.rga_lines.proofs.DeletionLemmas.{next_in_range}
use Rattle.rga_lines.proofs.NextDeletion.{next_deletion}
use Rattle.rga_lines.proofs.deletion_run.DeletionRun.ops.Goals as goal

pub deletions-preserved : goal.deletions-preserved
deletions-preserved c =
    let here = identifier c.deletions.counter c.replica-replica.result in
    let next = identifier (c.deletions.counter + 1) c.replica-replica.result in
    let is : c.in-Ok.id ≡ here = search rules in
    record {
      made = ap (λ ops. ops ++ deletions_from next (c.deletions.left - 1)) (c.in_ok-push.ensures.items ∙ (λ k. c.deletions.ops.items ++ Delete (is k) ∷ []))
          ∙ sym (next_deletion c.deletions.ops.items here c.deletions.left c.deletions-test.true)
          ∙ c.deletions.invariant.made;
      end = omega (arith, c.deletions.invariant.end, c.deletions-test.true);
      element = λ some. next_in_range c.deletions.counter c.replica-replica.result (c.deletions.invariant.element c.deletions-test.true) (omega (arith, some, c.deletions.invariant.end));
    }
