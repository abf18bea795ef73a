use Rattle.std.proofs.Common.{◌≡◌, ◌++◌, is_some, ap, ◌∙◌, subst}
use Rattle.std.specs.FinMap as finite_map
use Rattle.std.specs.List.{filter_map}
use Rattle.std.specs.List.Sorted.{IsPermutation}
use Rattle.std.proofs.lemmas.Result.{on_ok_weaker}
use Rattle.rga_ops.specs.Content.{Content}
use Rattle.rga_ops.specs.Operations.{insertion_at}
use Rattle.rga_tree.specs.Nodes.{Nodes, inserted_ids, content_of_nodes}
use Rattle.rga_store.proofs.SortedIdLaws.{sorted_keys}
use Rattle.rga_tree.proofs.PickedLaws.{picked_distinct, any_inserted}
use Rattle.rga_tree.proofs.operations.list_insertions.Goals as goal

pub returns : goal.returns
returns c = record {
  ok =
      let ns : Nodes = c.args.nodes.now.entries in
      let held : Content = content_of_nodes ns in
      let gathered : c.push_ids.new.ids.items ≡ inserted_ids ns = c.in_ok-push_ids.ensures.ok ∙ ap (λ xs. xs ++ inserted_ids ns) c.new-ids.ensures.items in
      let sorted : c.sort_unstable.new.self.items ≡ finite_map.keys held.inserted =
      sorted_keys held.inserted (inserted_ids ns) c.sort_unstable.new.self.items
      (subst (λ xs. IsPermutation xs c.sort_unstable.new.self.items) gathered c.sort_unstable.ensures.permutation)
      c.sort_unstable.ensures.sorted (picked_distinct (λ v. is_some v.element) ns c.requires) (λ q. any_inserted ns q c.requires) in
      on_ok_weaker c.push_insertions.result
      (λ pushed. pushed ∙ ap (λ ids. c.args.ops.now.items ++ filter_map (insertion_at held) ids) (c.deref.ensures.value ∙ sorted))
      c.push_insertions.ensures.ok;
}
