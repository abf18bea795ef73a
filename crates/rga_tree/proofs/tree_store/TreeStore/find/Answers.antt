use Rattle.std.proofs.Common.{sym, ap, ◌∙◌}
use Rattle.std.specs.Option.{option_copied}
use Rattle.std.specs.FinMap as finite_map
use Rattle.std.specs.FinSet as finite_set
use Rattle.rga_ops.specs.Content.{known_ids}
use Rattle.rga_store.specs.Kept.{Kept}
use Rattle.rga_tree.proofs.NodeLaws.{element_of, mark_of, inserted_at, deleted_at}
use Rattle.rga_tree.proofs.tree_store.TreeStore.find.Goals as goal

pub returns-in-Some : goal.returns-in-Some
returns-in-Some c = λ k. record {
  found = (ap element_of (ap option_copied (sym c.in-Some.is) ∙ c.get.ensures.value)
      ∙ sym (inserted_at c.self.inside.nodes.entries c.self.invariant.apart c.args.id)
      ∙ ap (λ (v : Kept). finite_map.get v.content.inserted c.args.id) c.self.view_is) k;
  deleted = (ap mark_of (ap option_copied (sym c.in-Some.is) ∙ c.get.ensures.value)
      ∙ sym (deleted_at c.self.inside.nodes.entries c.self.invariant.apart c.args.id)
      ∙ ap (λ (v : Kept). finite_set.contains v.content.deleted c.args.id) c.self.view_is) k;
  known = (c.self.invariant.counted.known ∙ ap (λ (v : Kept). finite_set.len (known_ids v.content)) c.self.view_is) k;
  limit = ap (λ (v : Kept). v.limit) c.self.view_is k;
}

pub returns-in-None : goal.returns-in-None
returns-in-None c = λ k. record {
  found = (ap element_of (ap option_copied (sym c.in-None.is) ∙ c.get.ensures.value)
      ∙ sym (inserted_at c.self.inside.nodes.entries c.self.invariant.apart c.args.id)
      ∙ ap (λ (v : Kept). finite_map.get v.content.inserted c.args.id) c.self.view_is) k;
  deleted = (ap mark_of (ap option_copied (sym c.in-None.is) ∙ c.get.ensures.value)
      ∙ sym (deleted_at c.self.inside.nodes.entries c.self.invariant.apart c.args.id)
      ∙ ap (λ (v : Kept). finite_set.contains v.content.deleted c.args.id) c.self.view_is) k;
  known = (c.self.invariant.counted.known ∙ ap (λ (v : Kept). finite_set.len (known_ids v.content)) c.self.view_is) k;
  limit = ap (λ (v : Kept). v.limit) c.self.view_is k;
}
