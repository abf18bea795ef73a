use Rattle.rga_brief.proofs.Prelude.{cond, sym, ap, ◌∙◌, Option, Some, id_of, Op, Digests, block_of, is_block, with_operation, digests_told}
use Rattle.rga_brief.proofs.MissingLaws.{operation_mixed}
use Rattle.rga_brief.proofs.told_digests.ToldDigestsListener.hear.Goals as goal

pub returns : goal.returns
returns c = record {
  ok = λ told has b.
      let op : Op = c.args.op.now in
      c.in_ok-add_operation.ensures.ok b
      ∙ ap (λ (before : Option Digests). cond (is_block (block_of (id_of op)) b) (Some (with_operation before op)) before) ((λ k. digests_told (c.self.view_is k) b) ∙ has b)
      ∙ sym (operation_mixed b told op);
}
