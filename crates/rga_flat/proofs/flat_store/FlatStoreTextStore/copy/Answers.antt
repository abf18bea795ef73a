use Rattle.std.proofs.Common.{◌≡◌, ◌≢◌, ◌≤◌, List, Result, refl, sym, ap, ◌∙◌, subst, arith}
use Rattle.std.specs.FinSet as finite_set
use Rattle.rga_ops.specs.Content.{Content, known_ids, nothing}
use Rattle.rga_ops.specs.Prelude.{operations, IsSound, Memory}
use Rattle.rga_ops.specs.declared.op.Op.{Op}
use Rattle.rga_ops.specs.Answer.{taken_one_by_one}
use Rattle.rga_ops.specs.declared.refusal.Refusal.{Refusal}
use Rattle.rga_ops.specs.declared.refusal.Refusal.TheVariants.{Memory as OfMemory}
use Rattle.rga_ops.proofs.OperationsLaws.{operations_taken}
use Rattle.rga_ops.proofs.TakenLaws.{took, refused}
use Rattle.rga_store.specs.Kept.{Kept}
use Rattle.rga_flat.proofs.flat_store.FlatStoreTextStore.copy.Goals as goal

-- an empty store of the same limit can take what a store holds
taken : (own copy new : Kept) (ops : List Op) → copy ≡ new → (new.content ≡ nothing) × (new.limit ≡ own.limit) → ops ≡ operations own.content → IsSound own.content → finite_set.len (known_ids own.content) ≤ own.limit → taken_one_by_one copy.limit copy.content ops ≡ took own.content
taken own copy new ops same empty all sound fits =
    (λ i. taken_one_by_one ((ap (λ (v : Kept). v.limit) same ∙ empty.1) i) ((ap (λ (v : Kept). v.content) same ∙ empty.0) i) (all i)) ∙ operations_taken own.limit own.content sound fits

-- what can be taken is refused for want of memory alone
module _ (t : Result Content Refusal) (d : Content) (all : t ≡ took d) where
  never : (e : Refusal) → t ≡ refused e → ⊥
  never e fails = let clash : refused e ≡ took d = sym fails ∙ all in cc

  memory_alone : (e : Refusal) → (e ≢ Memory → t ≡ refused e) → e ≡ Memory
  memory_alone (OfMemory m) h = refl
  memory_alone e h = grind (arith, never e)

pub memory-requires-in-Err-taken : goal.memory-requires-in-Err-taken
memory-requires-in-Err-taken c =
    let empty = c.in-Ok.ensures.made c.limit.ensures.range in
    let fits : finite_set.len (known_ids c.self.inside.records.content) ≤ c.self.inside.records.limit = subst (λ n. n ≤ c.self.inside.records.limit) c.known-known.ensures.known c.known-known.ensures.within in
    let all : taken_one_by_one c.copy.inside.records.limit c.copy.inside.records.content c.deref.result.now ≡ took c.self.inside.records.content =
    taken c.self.inside.records c.copy.inside.records _ c.deref.result.now c.copy.view_is (empty.0, empty.1 ∙ c.limit.ensures.limit) (c.deref.ensures.value ∙ c.in_ok-ops.ensures.ok) c.known-known.ensures.sound fits in
    memory_alone _ _ all c.in-Err-taken.refused c.in-Err-taken.ensures.refused

pub returns-in-Ok-taken : goal.returns-in-Ok-taken
returns-in-Ok-taken c = record {
  ok =
      let empty = c.in-Ok.ensures.made c.limit.ensures.range in
      let fits : finite_set.len (known_ids c.self.inside.records.content) ≤ c.self.inside.records.limit = subst (λ n. n ≤ c.self.inside.records.limit) c.known-known.ensures.known c.known-known.ensures.within in
      let all : taken_one_by_one c.copy.inside.records.limit c.copy.inside.records.content c.deref.result.now ≡ took c.self.inside.records.content =
      taken c.self.inside.records c.copy.inside.records _ c.deref.result.now c.copy.view_is (empty.0, empty.1 ∙ c.limit.ensures.limit) (c.deref.ensures.value ∙ c.in_ok-ops.ensures.ok) c.known-known.ensures.sound fits in
      let same : took c.take_whole-taken.new.records.content ≡ took c.self.inside.records.content = sym c.in-Ok-taken.ensures.ok ∙ all in
      let there : c.take_whole-taken.new.records.content ≡ c.self.inside.records.content = cc in
      (there ∙ ap (λ (v : Kept). v.content) c.self.view_is, c.take_whole-taken.ensures.limit ∙ ap (λ (v : Kept). v.limit) c.copy.view_is ∙ empty.1 ∙ c.limit.ensures.limit ∙ ap (λ (v : Kept). v.limit) c.self.view_is);
}
