use Rattle.std.proofs.Common.{◌≡◌, ◌++◌, map, sym, ap, ◌∙◌, subst}
use Rattle.std.specs.FinSet as finite_set
use Rattle.std.specs.List.Sorted.{IsPermutation}
use Rattle.std.proofs.lemmas.Result.{on_ok_weaker}
use Rattle.rga_ops.specs.Operations.{rising}
use Rattle.rga_ops.proofs.IdentifierLaws.{ids_total}
use Rattle.rga_ops.specs.declared.op.Op.TheVariants.{Delete}
use Rattle.rga_tree.specs.Nodes.{Nodes, marked_ids, content_of_nodes}
use Rattle.rga_store.proofs.SortedIdLaws.{sorted_rising}
use Rattle.rga_tree.proofs.PickedLaws.{picked_distinct}
use Rattle.rga_tree.proofs.operations.list_deletions.Goals as goal

pub returns : goal.returns
returns c = record {
  ok =
      let ns : Nodes = c.args.nodes.now.entries in
      let gathered : c.push_ids.new.ids.items ≡ marked_ids ns = c.in_ok-push_ids.ensures.ok ∙ ap (λ xs. xs ++ marked_ids ns) c.new-ids.ensures.items in
      let sorted : c.sort_unstable.new.self.items ≡ rising (finite_set.items (content_of_nodes ns).deleted) =
      sorted_rising (finite_set.items (content_of_nodes ns).deleted) (marked_ids ns) c.sort_unstable.new.self.items
      (subst (λ xs. IsPermutation xs c.sort_unstable.new.self.items) gathered c.sort_unstable.ensures.permutation)
      c.sort_unstable.ensures.sorted (picked_distinct (λ v. v.deleted) ns c.requires)
      (λ q. sym (finite_set.contains-from_list ids_total (marked_ids ns) q) ∙ finite_set.contains-items (finite_set.from_list (marked_ids ns)) q) in
      on_ok_weaker c.push_deletions.result
      (λ pushed. pushed ∙ ap (λ ids. c.args.ops.now.items ++ map Delete ids) (c.deref.ensures.value ∙ sorted))
      c.push_deletions.ensures.ok;
}
