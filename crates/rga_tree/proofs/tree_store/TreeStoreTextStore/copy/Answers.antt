use Rattle.std.proofs.Common.{◌≡◌, ◌≤◌, sym, ap, ◌∙◌, subst}
use Rattle.std.specs.Prelude.{Ok}
use Rattle.std.specs.FinSet as finite_set
use Rattle.rga_ops.specs.Content.{Content, join, known_ids, nothing}
use Rattle.rga_ops.specs.ListAnswer.{merge_answer}
use Rattle.rga_ops.proofs.AgreeLaws.{agree_swap, agree_nothing}
use Rattle.rga_ops.proofs.ContentLaws.{nothing_join}
use Rattle.rga_ops.proofs.MergeLaws.{merge_taken-iff}
use Rattle.rga_store.specs.Kept.{Kept}
use Rattle.rga_store.proofs.TakingLaws.{memory_alone}
use Rattle.rga_tree.proofs.tree_store.TreeStoreTextStore.copy.Goals as goal

-- an empty store of the same limit takes what a store holds
pub memory-requires-in-Err-merge : goal.memory-requires-in-Err-merge
memory-requires-in-Err-merge c =
    let own : Content = c.args.self.now.content in
    let empty = c.in-Ok.ensures.made c.self.invariant.counted.limited in
    let within : finite_set.len (known_ids own) ≤ c.args.self.now.limit =
    subst (λ (v : Kept). finite_set.len (known_ids v.content) ≤ v.limit) c.self.view_is
    (subst (λ n. n ≤ c.self.inside.limit) c.self.invariant.counted.known c.self.invariant.counted.room) in
    let fits : finite_set.len (known_ids (join nothing own)) ≤ c.in-Ok.copy.limit =
    subst (λ d. finite_set.len (known_ids d) ≤ c.in-Ok.copy.limit) (sym (nothing_join own))
    (subst (λ n. finite_set.len (known_ids own) ≤ n) (sym (empty.1 ∙ ap (λ (v : Kept). v.limit) c.self.view_is)) within) in
    let takes : merge_answer c.in-Ok.copy.limit c.in-Ok.copy.content own ≡ Ok tt =
    ap (λ d. merge_answer c.in-Ok.copy.limit d own) empty.0
    ∙ (merge_taken-iff c.in-Ok.copy.limit nothing own).1 (agree_swap own nothing (agree_nothing own), fits) in
    memory_alone c.merge.result _ tt c.in-Err-merge.refused takes c.in-Err-merge.is c.merge.ensures.exact

-- an empty store of the same limit joins what a store holds
pub returns-in-Ok-merge : goal.returns-in-Ok-merge
returns-in-Ok-merge c = record {
  ok =
      let empty = c.in-Ok.ensures.made c.self.invariant.counted.limited in (
        c.merge.ensures.joined c.in-Ok-merge.is
            ∙ ap (λ d. join d c.args.self.now.content) empty.0 ∙ nothing_join c.args.self.now.content,
        c.merge.ensures.limit ∙ empty.1 ∙ ap (λ (v : Kept). v.limit) c.self.view_is,
      );
}
